use Rattle.std.proofs.Common.{◌≡◌, take}
use Rattle.mv_syntax.specs.Printed.{printed}
use Rattle.mv_syntax.specs.Loops.{items, each}
use Rattle.mv_slice.specs.Weights.{chroma_weight}
use Rattle.mv_slice.proofs.weights.print_chroma_weights.Given as goal

abbrev pub invariant-loop-j : goal.invariant-loop-j
invariant-loop-j l = l.out ≡ printed (items 0 2 (each chroma_weight)) (take l.j l.all) l.fn.out
