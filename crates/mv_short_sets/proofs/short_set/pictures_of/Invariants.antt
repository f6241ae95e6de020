use Rattle.std.proofs.Common.{◌≡◌}
use Rattle.mv_syntax.specs.inner.Reader.{read}
use Rattle.mv_syntax.specs.Loops.{each, columns}
use Rattle.mv_syntax.specs.inner.Turns.{rest_of_columns}
use Rattle.mv_short_sets.specs.ShortSet.{picture}
use Rattle.mv_short_sets.proofs.short_set.pictures_of.Given as goal

abbrev pub invariant-loop-j : goal.invariant-loop-j
invariant-loop-j l =
    (read (columns 0 l.count (each (picture l.side))) l.fn.bits.left ≡ rest_of_columns (each (picture l.side)) l.j l.count l.delta_poc_minus1.items l.used_by_curr_pic_flag.items l.bits.left)
    × (l.bits.total ≡ l.fn.bits.total)
