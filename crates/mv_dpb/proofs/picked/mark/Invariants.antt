use Rattle.std.proofs.Common.{◌≡◌, ◌++◌, take, drop, vec_capacity}
use Rattle.mv_dpb.specs.Buffer.{marks}
use Rattle.mv_dpb.proofs.picked.mark.Given as goal

abbrev pub invariant-loop-i : goal.invariant-loop-i
invariant-loop-i l = (l.held.items ≡ marks (take l.i l.keep) (take l.i l.fn.held.items) ++ drop l.i l.fn.held.items) × (vec_capacity l.held ≡ vec_capacity l.fn.held)
