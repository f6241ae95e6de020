use Rattle.std.proofs.Common.{◌≡◌, take}
use Rattle.mv_syntax.specs.Printed.{printed}
use Rattle.mv_syntax.specs.Loops.{items}
use Rattle.mv_slice.specs.Weights.{numbered_list}
use Rattle.mv_slice.proofs.weights.print_lists_weights.Given as goal

abbrev pub invariant-loop-i : goal.invariant-loop-i
invariant-loop-i l = l.out ≡ printed (items 0 l.n (numbered_list l.chroma l.active.l0 l.active.l1)) (take l.i l.all) l.fn.out
