use Rattle.std.proofs.Common.{◌≡◌}
use Rattle.mv_syntax.specs.inner.Reader.{read}
use Rattle.mv_syntax.specs.inner.Turns.{rest_of_items}
use Rattle.mv_vpslayers.specs.DependencyTypes.{dependency_type, layer_dependency_types}
use Rattle.mv_vpslayers.proofs.dependency_types.layer_dependency_types_of.Given as goal

abbrev pub invariant-loop-j : goal.invariant-loop-j
invariant-loop-j l =
    (read (layer_dependency_types l.width l.flags l.i) l.fn.bits.left
    ≡ rest_of_items (dependency_type l.width l.flags l.i) l.j l.i l.all.items l.bits.left)
    × (l.bits.total ≡ l.fn.bits.total)
