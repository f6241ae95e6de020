use Rattle.std.proofs.Common.{◌≡◌, ◌-◌, take, length}
use Rattle.mv_syntax.specs.Printed.{printed}
use Rattle.mv_syntax.specs.Loops.{items}
use Rattle.mv_vpssets.specs.DpbSizes.{dpb_of_set}
use Rattle.mv_vpssets.proofs.dpb_sizes.print_dpb_size.Given as goal

abbrev pub invariant-loop-k : goal.invariant-loop-k
invariant-loop-k l = l.out ≡ printed (items 1 (length l.sets - 1) (dpb_of_set l.sets)) (take l.k l.all) l.fn.out
