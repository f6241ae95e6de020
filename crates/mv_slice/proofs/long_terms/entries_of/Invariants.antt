use Rattle.std.proofs.Common.{◌≡◌}
use Rattle.mv_syntax.specs.inner.Reader.{read}
use Rattle.mv_syntax.specs.inner.Turns.{rest_of_items}
use Rattle.mv_slice.specs.LongTerms.{entries, long_term}
use Rattle.mv_slice.proofs.long_terms.entries_of.Given as goal

abbrev pub invariant-loop-i : goal.invariant-loop-i
invariant-loop-i l =
    (read (entries l.ctx l.num_long_term_sps l.n) l.fn.bits.left ≡ rest_of_items (long_term l.ctx l.num_long_term_sps) l.i l.n l.all.items l.bits.left)
    × (l.bits.total ≡ l.fn.bits.total)
