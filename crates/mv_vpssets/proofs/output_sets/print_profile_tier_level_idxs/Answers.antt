use Rattle.std.proofs.Common.{length, arith}
use Rattle.mv_syntax.proofs.PrintingLoops.{print_items_step}
use Rattle.mv_vpssets.specs.OutputSets.{profile_tier_level_idx}
use Rattle.mv_vpssets.proofs.output_sets.print_profile_tier_level_idxs.Goals as goal

pub loop-j-preserved : goal.loop-j-preserved
loop-j-preserved c =
    print_items_step (profile_tier_level_idx c.args.vps_num_profile_tier_level_minus1 c.args.set.now) 0 (length c.args.set.now.layers) _ _ c.loop-j.j c.loop-j.j _ _ c.loop-j.invariant c.loop-j-test.true (omega arith) c.in_ok-outer.ensures
    c.in_ok-print_profile_tier_level_idx.ensures c.close.ensures
