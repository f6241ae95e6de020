use Rattle.std.proofs.Common.{◌≡◌, ◌+◌, take}
use Rattle.mv_syntax.specs.Loops.{items}
use Rattle.mv_syntax.specs.Printed.{printed}
use Rattle.mv_common.specs.Hrd.{hrd_sub_layer}
use Rattle.mv_common.proofs.hrd_sub_layer.print_hrd_sub_layers.Given as goal

abbrev pub invariant-loop-i : goal.invariant-loop-i
invariant-loop-i l = l.out ≡ printed (items 0 (l.subs + 1) (hrd_sub_layer l.flags)) (take l.i l.sub_layers) l.fn.out
