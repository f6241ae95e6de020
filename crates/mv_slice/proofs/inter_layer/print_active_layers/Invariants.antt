use Rattle.std.proofs.Common.{◌≡◌, take}
use Rattle.mv_syntax.specs.Printed.{printed}
use Rattle.mv_syntax.specs.Loops.{items_after}
use Rattle.mv_slice.specs.InterLayer.{active_layer}
use Rattle.mv_slice.proofs.inter_layer.print_active_layers.Given as goal

abbrev pub invariant-loop-i : goal.invariant-loop-i
invariant-loop-i l = l.out ≡ printed (items_after 0 l.n (active_layer l.ctx)) (take l.i l.all) l.fn.out
