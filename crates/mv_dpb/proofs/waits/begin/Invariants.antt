use Rattle.std.proofs.Common.{◌≡◌, ◌++◌, map, take, drop, vec_capacity}
use Rattle.mv_dpb.specs.Waits.{begun_with}
use Rattle.mv_dpb.proofs.waits.begin.Given as goal

abbrev pub invariant-loop-i : goal.invariant-loop-i
invariant-loop-i l = (l.waits.items ≡ map (begun_with l.au) (take l.i l.fn.waits.items) ++ drop l.i l.fn.waits.items) × (vec_capacity l.waits ≡ vec_capacity l.fn.waits)
