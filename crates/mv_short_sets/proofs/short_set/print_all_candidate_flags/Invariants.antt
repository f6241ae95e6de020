use Rattle.std.proofs.Common.{◌≡◌, length, take}
use Rattle.mv_syntax.specs.Printed.{printed}
use Rattle.mv_syntax.specs.Loops.{each, columns}
use Rattle.mv_short_sets.specs.ShortSet.{candidate_flags}
use Rattle.mv_short_sets.proofs.short_set.print_all_candidate_flags.Given as goal

abbrev pub invariant-loop-j : goal.invariant-loop-j
invariant-loop-j l = l.out ≡ printed (columns 0 (length l.used_by_curr_pic_flag) (each candidate_flags)) (take l.j l.used_by_curr_pic_flag, take l.j l.use_delta_flag) l.fn.out
