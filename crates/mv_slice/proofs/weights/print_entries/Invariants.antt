use Rattle.std.proofs.Common.{◌≡◌, take}
use Rattle.mv_syntax.specs.Printed.{printed}
use Rattle.mv_syntax.specs.Loops.{items}
use Rattle.mv_slice.specs.Weights.{entry_weights}
use Rattle.mv_slice.proofs.weights.print_entries.Given as goal

abbrev pub invariant-loop-i : goal.invariant-loop-i
invariant-loop-i l = l.out ≡ printed (items 0 l.n (entry_weights l.luma l.chroma)) (take l.i l.all) l.fn.out
