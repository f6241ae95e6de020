use Rattle.std.proofs.Common.{arith}
use Rattle.mv_syntax.proofs.PrintingLoops.{print_item_step}
use Rattle.mv_vpslayers.specs.Dependencies.{layer_max_tids}
use Rattle.mv_vpslayers.proofs.dependencies.print_max_tids.Goals as goal

pub loop-i-preserved : goal.loop-i-preserved
loop-i-preserved c =
    print_item_step (layer_max_tids c.args.vps_max_layers_minus1 c.args.flags.now) 0 c.args.vps_max_layers_minus1 _ _ c.loop-i.i c.loop-i.i _ _ _ c.loop-i.invariant c.loop-i-test.true (omega arith) c.index-all-i.is c.in_ok-outer.ensures
    c.in_ok-print_layer_max_tids.ensures c.close.ensures
