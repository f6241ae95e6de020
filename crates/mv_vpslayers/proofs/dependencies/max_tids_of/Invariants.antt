use Rattle.std.proofs.Common.{◌≡◌}
use Rattle.mv_syntax.specs.inner.Reader.{read}
use Rattle.mv_syntax.specs.inner.Turns.{rest_of_items}
use Rattle.mv_vpslayers.specs.Dependencies.{layer_max_tids, max_tids}
use Rattle.mv_vpslayers.proofs.dependencies.max_tids_of.Given as goal

abbrev pub invariant-loop-i : goal.invariant-loop-i
invariant-loop-i l =
    (read (max_tids l.vps_max_layers_minus1 l.flags) l.fn.bits.left ≡ rest_of_items (layer_max_tids l.vps_max_layers_minus1 l.flags) l.i l.vps_max_layers_minus1 l.all.items l.bits.left)
    × (l.bits.total ≡ l.fn.bits.total)
