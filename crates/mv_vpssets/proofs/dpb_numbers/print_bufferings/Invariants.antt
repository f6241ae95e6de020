use Rattle.std.proofs.Common.{◌≡◌, take, length}
use Rattle.mv_syntax.specs.Printed.{printed}
use Rattle.mv_syntax.specs.Loops.{items}
use Rattle.mv_vpssets.specs.DpbSizes.{buffering}
use Rattle.mv_vpssets.proofs.dpb_numbers.print_bufferings.Given as goal

abbrev pub invariant-loop-k : goal.invariant-loop-k
invariant-loop-k l = l.out ≡ printed (items 0 (length l.necessary) (buffering l.necessary)) (take l.k l.all) l.fn.out
