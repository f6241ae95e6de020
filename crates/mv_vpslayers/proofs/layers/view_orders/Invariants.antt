use Rattle.std.proofs.Common.{◌≡◌, map}
use Rattle.std.specs.List.{range_with_len}
use Rattle.mv_vpslayers.specs.Layers.{view_order_index}
use Rattle.mv_vpslayers.proofs.layers.view_orders.Given as goal

abbrev pub invariant-loop-i : goal.invariant-loop-i
invariant-loop-i l = l.all.items ≡ map (view_order_index l.layers) (range_with_len 0 l.i)
