use Rattle.std.proofs.Common.{arith}
use Rattle.mv_syntax.proofs.PrintingLoops.{print_items_step}
use Rattle.mv_vpslayers.specs.DependencyTypes.{dependency_type}
use Rattle.mv_vpslayers.proofs.dependency_types.print_layer_dependency_types.Goals as goal

pub loop-j-preserved : goal.loop-j-preserved
loop-j-preserved c =
    print_items_step (dependency_type c.args.width c.args.flags.now c.args.i) 0 c.args.i _ _ c.loop-j.j c.loop-j.j _ _ c.loop-j.invariant c.loop-j-test.true (omega arith) c.in_ok-outer.ensures
    c.in_ok-print_dependency_type.ensures c.close.ensures
