use Rattle.std.proofs.Common.{◌≡◌, take}
use Rattle.mv_syntax.specs.Printed.{printed}
use Rattle.mv_common.specs.ScalingLists.{lists_of_size}
use Rattle.mv_common.proofs.scaling_lists.print_lists_of_size.Given as goal

abbrev pub invariant-loop-k : goal.invariant-loop-k
invariant-loop-k l = l.out ≡ printed (lists_of_size l.s) (take l.k l.lists) l.fn.out
