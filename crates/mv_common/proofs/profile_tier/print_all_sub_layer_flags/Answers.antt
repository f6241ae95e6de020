use Rattle.std.proofs.Common.{◌≡◌, length, arith}
use Rattle.mv_syntax.proofs.PrintingLoops.{print_columns_step}
use Rattle.mv_common.specs.ProfileTier.{sub_layer_flags}
use Rattle.mv_common.proofs.ProfileTiers.{valid_lengths}
use Rattle.mv_common.proofs.profile_tier.print_all_sub_layer_flags.Goals as goal

pub loop-i-preserved : goal.loop-i-preserved
loop-i-preserved c =
    let lengths = valid_lengths c.args.subs c.args.profile_flags.now c.args.level_flags.now c.requires in
    print_columns_step sub_layer_flags 0 c.args.subs _ _ _ c.loop-i.i c.loop-i.i _ _ _ c.loop-i.invariant c.loop-i-test.true (omega arith) (omega arith) c.in_ok-outer.ensures
    c.in_ok-print_sub_layer_flags.ensures c.close.ensures
