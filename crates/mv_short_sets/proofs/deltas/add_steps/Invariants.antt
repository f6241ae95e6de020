use Rattle.std.proofs.Common.{◌≡◌, ◌*◌, ◌≤◌, ◌++◌, drop}
use Rattle.mv_short_sets.specs.Deltas.{steps}
use Rattle.mv_short_sets.proofs.deltas.add_steps.Given as goal

abbrev pub invariant-loop-j : goal.invariant-loop-j
invariant-loop-j l =
    (l.out.items ++ steps l.side l.far (drop l.j l.minus1) (drop l.j l.flags) ≡ l.initial.out.items ++ steps l.side 0 l.minus1 l.flags)
    × (l.far ≤ 32768 * l.j)
