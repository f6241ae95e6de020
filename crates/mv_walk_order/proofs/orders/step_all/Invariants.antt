use Rattle.std.proofs.Common.{◌≡◌, ◌<◌, ℕ, false}
use Rattle.mv_walk_order.specs.OrderSteps.{counted_upto, is_late_in}
use Rattle.mv_walk_order.proofs.orders.step_all.Given as goal

abbrev pub invariant-loop-set : goal.invariant-loop-set
invariant-loop-set l =
    (l.check ≡ counted_upto l.sets l.layer l.au l.count l.set l.initial.check)
    × ((o : ℕ) → o < l.set → is_late_in l.sets l.initial.check l.layer l.count o ≡ false)
