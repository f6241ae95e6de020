use Rattle.std.proofs.Common.{◌+◌, arith}
use Rattle.mv_syntax.proofs.PrintingLoops.{print_item_step}
use Rattle.mv_vpslayers.specs.Dependencies.{layer_dependencies}
use Rattle.mv_vpslayers.proofs.dependencies.print_dependency_flags.Goals as goal

pub loop-k-preserved : goal.loop-k-preserved
loop-k-preserved c =
    print_item_step layer_dependencies 1 c.args.vps_max_layers_minus1 _ _ c.loop-k.k (c.loop-k.k + 1) _ _ _ c.loop-k.invariant c.loop-k-test.true (omega arith) c.index-all-k.is c.in_ok-outer.ensures
    c.in_ok-print_layer_dependencies.ensures c.close.ensures
