use Rattle.std.proofs.Common.{◌≡◌}
use Rattle.mv_syntax.specs.inner.Reader.{read}
use Rattle.mv_syntax.specs.inner.Turns.{rest_of_items}
use Rattle.mv_vpslayers.specs.DependencyTypes.{layer_dependency_types, dependency_types}
use Rattle.mv_vpslayers.proofs.dependency_types.dependency_types_of.Given as goal

abbrev pub invariant-loop-i : goal.invariant-loop-i
invariant-loop-i l =
    (read (dependency_types l.vps_max_layers_minus1 l.width l.flags) l.fn.bits.left
    ≡ rest_of_items (layer_dependency_types l.width l.flags) l.i l.end l.all.items l.bits.left)
    × (l.bits.total ≡ l.fn.bits.total)
