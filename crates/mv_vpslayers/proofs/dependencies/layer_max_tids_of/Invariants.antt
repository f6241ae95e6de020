use Rattle.std.proofs.Common.{◌≡◌}
use Rattle.mv_syntax.specs.inner.Reader.{read}
use Rattle.mv_syntax.specs.inner.Turns.{rest_of_items}
use Rattle.mv_vpslayers.specs.Dependencies.{max_tid, layer_max_tids}
use Rattle.mv_vpslayers.proofs.dependencies.layer_max_tids_of.Given as goal

abbrev pub invariant-loop-j : goal.invariant-loop-j
invariant-loop-j l =
    (read (layer_max_tids l.vps_max_layers_minus1 l.flags l.i) l.fn.bits.left ≡ rest_of_items (max_tid l.flags l.i) l.j l.end l.all.items l.bits.left)
    × (l.bits.total ≡ l.fn.bits.total)
