use Rattle.std.proofs.Common.{◌≡◌, take}
use Rattle.mv_syntax.specs.Printed.{printed}
use Rattle.mv_syntax.specs.Loops.{each, items}
use Rattle.mv_vpsext.specs.Args.{layer_set}
use Rattle.mv_vps.proofs.layer_sets.print_layer_sets.Given as goal

abbrev pub invariant-loop-k : goal.invariant-loop-k
invariant-loop-k l = l.out ≡ printed (items 1 l.vps_num_layer_sets_minus1 (each (layer_set l.vps_max_layer_id))) (take l.k l.all) l.fn.out
