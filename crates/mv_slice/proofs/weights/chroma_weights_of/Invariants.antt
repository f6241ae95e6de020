use Rattle.std.proofs.Common.{◌≡◌}
use Rattle.mv_syntax.specs.inner.Reader.{read}
use Rattle.mv_syntax.specs.Loops.{each}
use Rattle.mv_syntax.specs.inner.Turns.{rest_of_items}
use Rattle.mv_slice.specs.Weights.{chroma_weight, chroma_weights}
use Rattle.mv_slice.proofs.weights.chroma_weights_of.Given as goal

abbrev pub invariant-loop-i : goal.invariant-loop-i
invariant-loop-i l =
    (read chroma_weights l.fn.bits.left ≡ rest_of_items (each chroma_weight) l.i 2 l.all.items l.bits.left)
    × (l.bits.total ≡ l.fn.bits.total)
