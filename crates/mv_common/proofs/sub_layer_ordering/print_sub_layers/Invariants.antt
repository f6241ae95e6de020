use Rattle.std.proofs.Common.{◌≡◌, ◌+◌, ◌-◌, take}
use Rattle.mv_syntax.specs.Printed.{printed}
use Rattle.mv_syntax.specs.Loops.{each, items}
use Rattle.mv_common.specs.SubLayerOrdering.{sub_layer}
use Rattle.mv_common.proofs.sub_layer_ordering.print_sub_layers.Given as goal

abbrev pub invariant-loop-k : goal.invariant-loop-k
invariant-loop-k l = l.out ≡ printed (items l.first (l.subs + 1 - l.first) (each (sub_layer l.set))) (take l.k l.all) l.fn.out
