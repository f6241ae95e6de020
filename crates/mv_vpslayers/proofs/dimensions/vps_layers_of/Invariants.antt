use Rattle.std.proofs.Common.{◌≡◌, ◌+◌, length}
use Rattle.mv_syntax.specs.inner.Reader.{read}
use Rattle.mv_syntax.specs.inner.Turns.{rest_of_items_after}
use Rattle.mv_vpslayers.specs.Dimensions.{vps_layer, vps_layers}
use Rattle.mv_vpslayers.proofs.dimensions.vps_layers_of.Given as goal

abbrev pub invariant-loop-i : goal.invariant-loop-i
invariant-loop-i l =
    (read (vps_layers l.vps_max_layers_minus1 l.present l.width) l.fn.bits.left ≡ rest_of_items_after (vps_layer l.present l.width) l.i l.end l.all.items l.bits.left)
    × (length l.all.items + 1 ≡ l.i)
    × (l.bits.total ≡ l.fn.bits.total)
