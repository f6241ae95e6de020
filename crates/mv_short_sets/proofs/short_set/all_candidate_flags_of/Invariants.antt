use Rattle.std.proofs.Common.{◌≡◌}
use Rattle.mv_syntax.specs.inner.Reader.{read}
use Rattle.mv_syntax.specs.Loops.{each, columns}
use Rattle.mv_syntax.specs.inner.Turns.{rest_of_columns}
use Rattle.mv_short_sets.specs.ShortSet.{candidate_flags}
use Rattle.mv_short_sets.proofs.short_set.all_candidate_flags_of.Given as goal

abbrev pub invariant-loop-j : goal.invariant-loop-j
invariant-loop-j l =
    (read (columns 0 l.count (each candidate_flags)) l.fn.bits.left ≡ rest_of_columns (each candidate_flags) l.j l.count l.used_by_curr_pic_flag.items l.use_delta_flag.items l.bits.left)
    × (l.bits.total ≡ l.fn.bits.total)
