use Rattle.std.proofs.Common.{◌≡◌}
use Rattle.mv_syntax.specs.inner.Reader.{read}
use Rattle.mv_syntax.specs.Loops.{each}
use Rattle.mv_syntax.specs.inner.Turns.{rest_of_items}
use Rattle.mv_common.specs.SubLayerOrdering.{sub_layer, sub_layers}
use Rattle.mv_common.proofs.sub_layer_ordering.sub_layers_of.Given as goal

abbrev pub invariant-loop-i : goal.invariant-loop-i
invariant-loop-i l =
    (read (sub_layers l.set l.first l.subs) l.fn.bits.left ≡ rest_of_items (each (sub_layer l.set)) l.i l.end l.all.items l.bits.left)
    × (l.bits.total ≡ l.fn.bits.total)
