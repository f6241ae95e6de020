use Rattle.std.proofs.Common.{◌≡◌}
use Rattle.mv_syntax.specs.inner.Reader.{read}
use Rattle.mv_syntax.specs.inner.Turns.{rest_of_items}
use Rattle.mv_vpslayers.specs.Dependencies.{layer_dependencies, dependency_flags}
use Rattle.mv_vpslayers.proofs.dependencies.dependency_flags_of.Given as goal

abbrev pub invariant-loop-i : goal.invariant-loop-i
invariant-loop-i l =
    (read (dependency_flags l.vps_max_layers_minus1) l.fn.bits.left ≡ rest_of_items (layer_dependencies) l.i l.end l.all.items l.bits.left)
    × (l.bits.total ≡ l.fn.bits.total)
