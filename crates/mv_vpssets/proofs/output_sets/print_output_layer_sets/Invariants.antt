use Rattle.std.proofs.Common.{◌≡◌, ◌+◌, length, take}
use Rattle.mv_syntax.specs.Printed.{printed}
use Rattle.mv_syntax.specs.Loops.{items}
use Rattle.mv_vpssets.specs.OutputSets.{output_layer_set}
use Rattle.mv_vpssets.proofs.output_sets.print_output_layer_sets.Given as goal

abbrev pub invariant-loop-k : goal.invariant-loop-k
invariant-loop-k l =
    l.out ≡ printed (items 1 (length l.sets + l.num_add_olss) (output_layer_set l.infos l.sets l.profiles l.idc)) (take l.k l.all) l.fn.out
