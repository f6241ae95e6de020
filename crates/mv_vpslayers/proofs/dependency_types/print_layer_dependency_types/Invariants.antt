use Rattle.std.proofs.Common.{◌≡◌, take}
use Rattle.mv_syntax.specs.Printed.{printed}
use Rattle.mv_syntax.specs.Loops.{items}
use Rattle.mv_vpslayers.specs.DependencyTypes.{dependency_type}
use Rattle.mv_vpslayers.proofs.dependency_types.print_layer_dependency_types.Given as goal

abbrev pub invariant-loop-j : goal.invariant-loop-j
invariant-loop-j l = l.out ≡ printed (items 0 l.i (dependency_type l.width l.flags l.i)) (take l.j l.all) l.fn.out
