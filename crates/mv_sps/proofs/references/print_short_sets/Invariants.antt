use Rattle.std.proofs.Common.{◌≡◌, take}
use Rattle.mv_syntax.specs.Printed.{printed}
use Rattle.mv_syntax.specs.Loops.{items_after}
use Rattle.mv_sps.specs.References.{short_set}
use Rattle.mv_sps.proofs.references.print_short_sets.Given as goal

abbrev pub invariant-loop-i : goal.invariant-loop-i
invariant-loop-i l = l.out ≡ printed (items_after 0 l.num (short_set l.num)) (take l.i l.sets) l.fn.out
