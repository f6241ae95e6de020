use Rattle.std.proofs.Common.{◌≡◌}
use Rattle.std.specs.List.{filter, range_with_len}
use Rattle.mv_layers.specs.LayerSets.{has_layer}
use Rattle.mv_layers.proofs.layer_sets.layers_in.Given as goal

abbrev pub invariant-loop-id : goal.invariant-loop-id
invariant-loop-id l = l.all.items ≡ filter (has_layer l.flags) (range_with_len 0 l.id)
