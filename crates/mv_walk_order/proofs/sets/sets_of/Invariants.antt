use Rattle.std.proofs.Common.{◌≡◌, map, take}
use Rattle.mv_walk_order.specs.OrderSteps.{set_value}
use Rattle.mv_walk_order.proofs.sets.sets_of.Given as goal

abbrev pub invariant-loop-set : goal.invariant-loop-set
invariant-loop-set l = l.all.items ≡ map (set_value l.number) (take l.set-index l.sets)
