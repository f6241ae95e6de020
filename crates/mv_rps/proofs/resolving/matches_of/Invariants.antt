use Rattle.std.proofs.Common.{◌≡◌, map, take}
use Rattle.mv_rps.specs.Matched.{with_match}
use Rattle.mv_rps.proofs.resolving.matches_of.Given as goal

abbrev pub invariant-loop-i : goal.invariant-loop-i
invariant-loop-i l = l.out.items ≡ map (with_match l.origin l.longs l.held) (take l.i l.entries)
