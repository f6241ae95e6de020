use Rattle.std.proofs.Common.{◌≡◌, take}
use Rattle.std.specs.List.{enumerate_from, filter_map}
use Rattle.mv_rps.specs.Resolving.{kept_at}
use Rattle.mv_rps.proofs.resolving.kept.Given as goal

abbrev pub invariant-loop-i : goal.invariant-loop-i
invariant-loop-i l = l.out.items ≡ filter_map (kept_at l.matched l.longs) (enumerate_from 0 (take l.i l.held))
