use Rattle.std.proofs.Common.{◌≡◌, ◌+◌, ◌-◌, take}
use Rattle.mv_syntax.specs.Printed.{printed}
use Rattle.mv_syntax.specs.Loops.{items}
use Rattle.mv_vpslayers.specs.Dependencies.{max_tid}
use Rattle.mv_vpslayers.proofs.dependencies.print_tids_of_layer.Given as goal

abbrev pub invariant-loop-k : goal.invariant-loop-k
invariant-loop-k l = l.out ≡ printed (items (l.i + 1) (l.vps_max_layers_minus1 - l.i) (max_tid l.flags l.i)) (take l.k l.all) l.fn.out
