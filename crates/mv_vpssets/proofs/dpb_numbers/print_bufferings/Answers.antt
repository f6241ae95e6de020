use Rattle.std.proofs.Common.{length, arith}
use Rattle.mv_syntax.proofs.PrintingLoops.{print_items_step}
use Rattle.mv_vpssets.specs.DpbSizes.{buffering}
use Rattle.mv_vpssets.proofs.dpb_numbers.print_bufferings.Goals as goal

pub loop-k-preserved : goal.loop-k-preserved
loop-k-preserved c =
    print_items_step (buffering c.args.necessary.now) 0 (length c.args.necessary.now) _ _ c.loop-k.k c.loop-k.k _ _ c.loop-k.invariant c.loop-k-test.true (omega arith) c.in_ok-outer.ensures
    c.in_ok-print_buffering.ensures c.close.ensures
