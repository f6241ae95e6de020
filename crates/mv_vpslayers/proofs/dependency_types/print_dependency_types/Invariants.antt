use Rattle.std.proofs.Common.{◌≡◌, take}
use Rattle.mv_syntax.specs.Printed.{printed}
use Rattle.mv_syntax.specs.Loops.{items}
use Rattle.mv_vpslayers.specs.DependencyTypes.{layer_dependency_types}
use Rattle.mv_vpslayers.proofs.dependency_types.print_dependency_types.Given as goal

abbrev pub invariant-loop-k : goal.invariant-loop-k
invariant-loop-k l = l.out ≡ printed (items 1 l.vps_max_layers_minus1 (layer_dependency_types l.width l.flags)) (take l.k l.all) l.fn.out
