use Rattle.std.proofs.Common.{◌≡◌, take}
use Rattle.mv_syntax.specs.Printed.{printed}
use Rattle.mv_syntax.specs.Loops.{items}
use Rattle.mv_vpslayers.specs.Dependencies.{layer_max_tids}
use Rattle.mv_vpslayers.proofs.dependencies.print_max_tids.Given as goal

abbrev pub invariant-loop-i : goal.invariant-loop-i
invariant-loop-i l = l.out ≡ printed (items 0 l.vps_max_layers_minus1 (layer_max_tids l.vps_max_layers_minus1 l.flags)) (take l.i l.all) l.fn.out
