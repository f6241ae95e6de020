use Rattle.std.proofs.Common.{◌≡◌, length}
use Rattle.mv_short_sets.specs.ShortSet.{ValidSets}
use Rattle.mv_short_sets_tests.proofs.tests.sets_of.Given as goal

abbrev pub invariant-loop-idx : goal.invariant-loop-idx
invariant-loop-idx l = (ValidSets l.num l.sets.items) × (length l.sets.items ≡ l.idx)
