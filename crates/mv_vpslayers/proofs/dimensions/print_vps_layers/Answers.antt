use Rattle.std.proofs.Common.{◌+◌, arith}
use Rattle.mv_syntax.proofs.PrintingLoops.{print_items_after_step}
use Rattle.mv_vpslayers.specs.Dimensions.{vps_layer}
use Rattle.mv_vpslayers.proofs.dimensions.print_vps_layers.Goals as goal

pub loop-k-preserved : goal.loop-k-preserved
loop-k-preserved c =
    print_items_after_step (vps_layer c.args.present c.args.width) 1 c.args.vps_max_layers_minus1 _ _ c.loop-k.k (c.loop-k.k + 1) _ _ c.loop-k.invariant c.loop-k-test.true (omega arith) c.in_ok-outer.ensures
    c.in_ok-print_vps_layer.ensures c.close.ensures
