use Rattle.std.proofs.Common.{◌+◌, ◌-◌, arith}
use Rattle.mv_syntax.specs.Loops.{each}
use Rattle.mv_syntax.proofs.LoopLaws.{items-valid}
use Rattle.mv_syntax.proofs.PrintingLoops.{print_items_step}
use Rattle.mv_common.specs.SubLayerOrdering.{sub_layer, sub_layers}
use Rattle.mv_common.proofs.sub_layer_ordering.print_sub_layers.Goals as goal

pub print_sub_layer-requires : goal.print_sub_layer-requires
unfolding sub_layers each
print_sub_layer-requires c =
    items-valid (each (sub_layer c.args.set)) c.args.first (c.args.subs + 1 - c.args.first) c.args.all.now c.loop-k.k (c.args.first + c.loop-k.k) _ c.requires (omega arith) (omega arith)

pub loop-k-preserved : goal.loop-k-preserved
unfolding sub_layers each
loop-k-preserved c =
    print_items_step (each (sub_layer c.args.set)) c.args.first _ _ _ c.loop-k.k (c.from.result + c.loop-k.k) _ _ c.loop-k.invariant (omega arith) (omega arith) c.in_ok-outer.ensures
    c.in_ok-print_sub_layer.ensures c.close.ensures
