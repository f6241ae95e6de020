use Rattle.std.proofs.Common.{◌≡◌, take}
use Rattle.mv_syntax.specs.Printed.{printed}
use Rattle.mv_syntax.specs.Loops.{items_after}
use Rattle.mv_vpslayers.specs.Dimensions.{vps_layer}
use Rattle.mv_vpslayers.proofs.dimensions.print_vps_layers.Given as goal

abbrev pub invariant-loop-k : goal.invariant-loop-k
invariant-loop-k l = l.out ≡ printed (items_after 1 l.vps_max_layers_minus1 (vps_layer l.present l.width)) (take l.k l.all) l.fn.out
