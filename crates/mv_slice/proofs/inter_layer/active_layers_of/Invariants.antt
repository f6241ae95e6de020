use Rattle.std.proofs.Common.{◌≡◌}
use Rattle.mv_syntax.specs.inner.Reader.{read}
use Rattle.mv_syntax.specs.inner.Turns.{rest_of_items_after}
use Rattle.mv_slice.specs.InterLayer.{active_layer, active_layer_numbers}
use Rattle.mv_slice.proofs.inter_layer.active_layers_of.Given as goal

abbrev pub invariant-loop-i : goal.invariant-loop-i
invariant-loop-i l =
    (read (active_layer_numbers l.ctx l.n) l.fn.bits.left ≡ rest_of_items_after (active_layer l.ctx) l.i l.n l.all.items l.bits.left)
    × (l.bits.total ≡ l.fn.bits.total)
