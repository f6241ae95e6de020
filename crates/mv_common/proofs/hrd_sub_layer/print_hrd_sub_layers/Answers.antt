use Rattle.std.proofs.Common.{◌+◌, arith}
use Rattle.mv_syntax.proofs.PrintingLoops.{print_item_step}
use Rattle.mv_common.specs.Hrd.{hrd_sub_layer}
use Rattle.mv_common.proofs.hrd_sub_layer.print_hrd_sub_layers.Goals as goal

pub loop-i-preserved : goal.loop-i-preserved
loop-i-preserved c =
    print_item_step (hrd_sub_layer c.args.flags) 0 (c.args.subs + 1) _ _ c.loop-i.i c.loop-i.i _ _ _ c.loop-i.invariant c.loop-i-test.true (omega arith) c.index-sub_layers-i.is c.in_ok-outer.ensures
    c.in_ok-print_hrd_sub_layer.ensures c.close.ensures
