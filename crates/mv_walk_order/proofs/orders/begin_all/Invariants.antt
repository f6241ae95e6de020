use Rattle.std.proofs.Common.{◌≡◌}
use Rattle.mv_walk_order.specs.OrderSteps.{begun_upto}
use Rattle.mv_walk_order.proofs.orders.begin_all.Given as goal

abbrev pub invariant-loop-set : goal.invariant-loop-set
invariant-loop-set l = l.check ≡ begun_upto l.sets l.set l.initial.check
