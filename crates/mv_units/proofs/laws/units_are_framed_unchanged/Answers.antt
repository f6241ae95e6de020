use Rattle.mv_units.proofs.Clean.{accepted-framable, shown-nothing, units-clean}
use Rattle.mv_units.proofs.laws.units_are_framed_unchanged.Goals as goal

pub returns-clause-clean : goal.returns-clause-clean
returns-clause-clean c = λ s k d below. (units-clean s k d below).0

pub returns-clause-ends : goal.returns-clause-ends
returns-clause-ends c = λ s k d below. (units-clean s k d below).1

pub returns-clause-framable : goal.returns-clause-framable
returns-clause-framable c = accepted-framable

pub returns-clause-accepted : goal.returns-clause-accepted
returns-clause-accepted c = shown-nothing
