use Rattle.std.proofs.Common.{◌≡◌, take}
use Rattle.mv_syntax.specs.Printed.{printed}
use Rattle.mv_common.specs.ScalingLists.{scaling_list_data}
use Rattle.mv_common.proofs.scaling_lists.print_sizes.Given as goal

abbrev pub invariant-loop-s : goal.invariant-loop-s
invariant-loop-s l = l.out ≡ printed (scaling_list_data) (take l.s l.sizes) l.fn.out
