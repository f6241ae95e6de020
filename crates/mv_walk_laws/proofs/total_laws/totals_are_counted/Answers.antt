use Rattle.mv_walk_laws.proofs.Counting.{kept-total, units-total}
use Rattle.mv_walk_laws.proofs.total_laws.totals_are_counted.Goals as goal

pub returns-clause-units : goal.returns-clause-units
returns-clause-units c = units-total

pub returns-clause-kept : goal.returns-clause-kept
returns-clause-kept c = kept-total
