use Rattle.std.proofs.Common.{◌≡◌}
use Rattle.mv_syntax.specs.inner.Reader.{read}
use Rattle.mv_syntax.specs.Loops.{each}
use Rattle.mv_syntax.specs.inner.Turns.{rest_of_columns}
use Rattle.mv_sps.specs.References.{candidate, candidates}
use Rattle.mv_sps.proofs.references.candidates_of.Given as goal

abbrev pub invariant-loop-i : goal.invariant-loop-i
invariant-loop-i l =
    (read (candidates l.lsb_bits l.n) l.fn.bits.left ≡ rest_of_columns (each (candidate l.lsb_bits)) l.i l.n l.lsbs.items l.used.items l.bits.left)
    × (l.bits.total ≡ l.fn.bits.total)
