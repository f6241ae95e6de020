use Rattle.std.proofs.Common.{◌≡◌}
use Rattle.mv_walk.proofs.making.refer_part.Given as goal

abbrev pub invariant-loop-index : goal.invariant-loop-index
invariant-loop-index g l = l.making ≡ record l.fn.making { work = l.making.work; references = l.making.references }
