use Rattle.std.proofs.Common.{◌≡◌, ◌≤◌, length, take}
use Rattle.std.specs.List.{find}
use Rattle.mv_rps.specs.Resolving.{fits, latest}
use Rattle.mv_rps.specs.Matched.{entry_to, set_of}
use Rattle.mv_rps.proofs.resolving.place_of.Given as goal

abbrev pub invariant-loop-left : goal.invariant-loop-left
invariant-loop-left l =
    (l.left ≤ length l.held)
    × (find (fits (set_of l.origin) l.longs (entry_to l.aim)) (latest (take l.left l.held)) ≡ find (fits (set_of l.origin) l.longs (entry_to l.aim)) (latest l.held))

abbrev pub decreases-loop-left : goal.decreases-loop-left
decreases-loop-left l = l.left
