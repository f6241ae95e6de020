use Rattle.std.proofs.Common.{◌≡◌}
use Rattle.mv_syntax.specs.inner.Reader.{read}
use Rattle.mv_syntax.specs.inner.Turns.{rest_of_items}
use Rattle.mv_slice.specs.Weights.{lists_weights, numbered_list}
use Rattle.mv_slice.proofs.weights.lists_weights_of.Given as goal

abbrev pub invariant-loop-i : goal.invariant-loop-i
invariant-loop-i l =
    (read (lists_weights l.chroma l.active.l0 l.active.l1 l.n) l.fn.bits.left ≡ rest_of_items (numbered_list l.chroma l.active.l0 l.active.l1) l.i l.n l.all.items l.bits.left)
    × (l.bits.total ≡ l.fn.bits.total)
