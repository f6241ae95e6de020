use Rattle.mv_units.proofs.Framed.{units-frame, leading-frame, frame-append}
use Rattle.mv_units.proofs.laws.framed_units_are_split_again.Goals as goal

pub returns-clause-units : goal.returns-clause-units
returns-clause-units c = λ us all. units-frame us all

pub returns-clause-leading : goal.returns-clause-leading
returns-clause-leading c = λ us. leading-frame us

pub returns-clause-append : goal.returns-clause-append
returns-clause-append c = λ us vs. frame-append us vs
