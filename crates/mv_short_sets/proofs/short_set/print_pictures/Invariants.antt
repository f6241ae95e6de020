use Rattle.std.proofs.Common.{◌≡◌, take}
use Rattle.mv_syntax.specs.Printed.{printed}
use Rattle.mv_syntax.specs.Loops.{each, columns}
use Rattle.mv_short_sets.specs.ShortSet.{picture}
use Rattle.mv_short_sets.proofs.short_set.print_pictures.Given as goal

abbrev pub invariant-loop-j : goal.invariant-loop-j
invariant-loop-j l = l.out ≡ printed (columns 0 l.count (each (picture l.side))) (take l.j l.delta_poc_minus1, take l.j l.used_by_curr_pic_flag) l.fn.out
