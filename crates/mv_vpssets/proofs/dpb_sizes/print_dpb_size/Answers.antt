use Rattle.std.proofs.Common.{◌+◌, ◌-◌, length, arith}
use Rattle.mv_syntax.proofs.PrintingLoops.{print_item_step}
use Rattle.mv_vpssets.specs.DpbSizes.{dpb_of_set}
use Rattle.mv_vpssets.proofs.dpb_sizes.print_dpb_size.Goals as goal

pub loop-k-preserved : goal.loop-k-preserved
loop-k-preserved c =
    print_item_step (dpb_of_set c.args.sets.now) 1 (length c.args.sets.now - 1) _ _ c.loop-k.k (c.loop-k.k + 1) _ _ _ c.loop-k.invariant c.loop-k-test.true (omega arith) c.index-all-k.is c.in_ok-outer.ensures
    c.in_ok-print_dpb_of_set.ensures c.close.ensures
