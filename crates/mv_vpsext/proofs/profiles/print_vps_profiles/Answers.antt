use Rattle.std.proofs.Common.{◌+◌, ◌-◌, arith}
use Rattle.mv_syntax.proofs.PrintingLoops.{print_item_step}
use Rattle.mv_vpsext.specs.Profiles.{vps_profile}
use Rattle.mv_vpsext.proofs.profiles.print_vps_profiles.Goals as goal

pub loop-k-preserved : goal.loop-k-preserved
loop-k-preserved c =
    print_item_step (vps_profile c.args.vps_max_sub_layers_minus1) 2 (c.args.vps_num_profile_tier_level_minus1 - 1) _ _ c.loop-k.k (c.loop-k.k + 2) _ _ _ c.loop-k.invariant c.loop-k-test.true (omega arith) c.index-all-k.is c.in_ok-outer.ensures
    c.in_ok-print_vps_profile.ensures c.close.ensures
