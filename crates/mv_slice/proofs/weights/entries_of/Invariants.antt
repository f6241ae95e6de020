use Rattle.std.proofs.Common.{◌≡◌}
use Rattle.mv_syntax.specs.inner.Reader.{read}
use Rattle.mv_syntax.specs.inner.Turns.{rest_of_items}
use Rattle.mv_slice.specs.Weights.{entry_weights, entry_weights_of_all}
use Rattle.mv_slice.proofs.weights.entries_of.Given as goal

abbrev pub invariant-loop-i : goal.invariant-loop-i
invariant-loop-i l =
    (read (entry_weights_of_all l.luma l.chroma l.n) l.fn.bits.left ≡ rest_of_items (entry_weights l.luma l.chroma) l.i l.n l.all.items l.bits.left)
    × (l.bits.total ≡ l.fn.bits.total)
