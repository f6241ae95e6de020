use Rattle.std.proofs.Common.{◌≡◌, ◌++◌, None, map, take, drop}
use Rattle.mv_sets.proofs.table.Table.clear.Given as goal

abbrev pub invariant-loop-entry : goal.invariant-loop-entry
invariant-loop-entry g l = l.entry-items ≡ map (λ entry. None) (take l.entry-index l.initial.entry-items) ++ drop l.entry-index l.initial.entry-items
