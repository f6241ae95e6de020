use Rattle.std.proofs.Common.{◌≡◌, None, replicate}
use Rattle.mv_sets.proofs.table.nothing.Given as goal

abbrev pub invariant-loop : goal.invariant-loop
invariant-loop g l = l.entries.items ≡ replicate l.counter None
