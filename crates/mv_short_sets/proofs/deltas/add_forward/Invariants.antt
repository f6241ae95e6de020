use Rattle.std.proofs.Common.{◌≡◌, ◌+◌, ◌++◌, drop}
use Rattle.mv_short_sets.specs.Deltas.{taken, moved}
use Rattle.mv_short_sets.proofs.deltas.add_forward.Given as goal

abbrev pub invariant-loop-j : goal.invariant-loop-j
invariant-loop-j l =
    l.out.items ++ taken l.side l.set (moved l.d (l.first + l.j) (drop l.j l.some)) ≡ l.initial.out.items ++ taken l.side l.set (moved l.d l.first l.some)
