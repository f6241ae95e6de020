use Rattle.std.proofs.Common.{◌≡◌, take}
use Rattle.mv_syntax.specs.Loops.{items}
use Rattle.mv_syntax.specs.Printed.{printed}
use Rattle.mv_common.specs.ScalingLists.{num_coefficients, coefficient}
use Rattle.std.specs.Prelude.{if◌then◌else◌}
use Rattle.mv_common.proofs.scaling_lists.print_coefficients.Given as goal

abbrev pub invariant-loop-k : goal.invariant-loop-k
invariant-loop-k l = l.out ≡ printed (items 0 (if l.coded then num_coefficients l.s else 0) coefficient) (take l.k l.list) l.fn.out
