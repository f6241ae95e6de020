use Rattle.std.proofs.Common.{◌≡◌, length}
use Rattle.mv_short_sets.specs.ShortSet.{ValidSets}
use Rattle.mv_slice_tests.proofs.tests.sets_of.Given as goal

abbrev pub invariant-loop-idx : goal.invariant-loop-idx
invariant-loop-idx l = (ValidSets l.count l.sets.items) × (length l.sets.items ≡ l.idx)
