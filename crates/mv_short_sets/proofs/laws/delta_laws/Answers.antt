use Rattle.mv_short_sets.proofs.DeltaLaws.{deltas-sided}
use Rattle.mv_short_sets.proofs.SetLaws.{deltas-few, set_near}
use Rattle.mv_short_sets.proofs.laws.delta_laws.Goals as goal

pub returns-clause-few : goal.returns-clause-few
returns-clause-few c = deltas-few

pub returns-clause-sided : goal.returns-clause-sided
returns-clause-sided c = deltas-sided

pub returns-clause-near : goal.returns-clause-near
returns-clause-near c = set_near
