use Rattle.std.proofs.Common.{◌≡◌}
use Rattle.mv_walk.proofs.making.refer_layers.Given as goal

abbrev pub invariant-loop-layer : goal.invariant-loop-layer
invariant-loop-layer g l = l.making ≡ record l.fn.making { work = l.making.work; references = l.making.references }
