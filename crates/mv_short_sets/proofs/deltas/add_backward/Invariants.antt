use Rattle.std.proofs.Common.{◌≡◌, ◌≤◌, ◌++◌, length, take, reverse}
use Rattle.mv_short_sets.specs.Deltas.{taken, moved}
use Rattle.mv_short_sets.proofs.deltas.add_backward.Given as goal

abbrev pub invariant-loop-left : goal.invariant-loop-left
invariant-loop-left l =
    (l.out.items ++ taken l.side l.set (reverse (moved l.d l.first (take l.left l.some))) ≡ l.initial.out.items ++ taken l.side l.set (reverse (moved l.d l.first l.some)))
    × (l.left ≤ length l.some)

abbrev pub decreases-loop-left : goal.decreases-loop-left
decreases-loop-left l = l.left
