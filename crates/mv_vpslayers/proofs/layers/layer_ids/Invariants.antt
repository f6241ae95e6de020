use Rattle.std.proofs.Common.{◌≡◌, map}
use Rattle.std.specs.List.{range_with_len}
use Rattle.mv_vpslayers.specs.Layers.{nuh_layer_id}
use Rattle.mv_vpslayers.proofs.layers.layer_ids.Given as goal

abbrev pub invariant-loop-i : goal.invariant-loop-i
invariant-loop-i l = l.all.items ≡ map (nuh_layer_id l.layers) (range_with_len 0 l.i)
