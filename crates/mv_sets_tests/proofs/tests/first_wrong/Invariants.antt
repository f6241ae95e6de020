use Rattle.std.proofs.Common.{◌≤◌}
use Rattle.mv_sets_tests.proofs.tests.first_wrong.Given as goal

abbrev pub invariant-loop-i : goal.invariant-loop-i
invariant-loop-i l = (l.store.sps.count ≤ l.i) × (l.store.pps.count ≤ l.i)
