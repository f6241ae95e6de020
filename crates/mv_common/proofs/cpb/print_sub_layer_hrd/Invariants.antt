use Rattle.std.proofs.Common.{◌≡◌, ◌+◌, take}
use Rattle.mv_syntax.specs.Loops.{items}
use Rattle.mv_syntax.specs.Printed.{printed}
use Rattle.mv_common.specs.Hrd.{cpb}
use Rattle.mv_common.proofs.cpb.print_sub_layer_hrd.Given as goal

abbrev pub invariant-loop-k : goal.invariant-loop-k
invariant-loop-k l = l.out ≡ printed (items 0 (l.cpb_cnt_minus1 + 1) (cpb l.sub_pic)) (take l.k l.cpbs) l.fn.out
