use Rattle.mv_walk.proofs.GoesOn.{failed-goes, stands-go, walked-goes}
use Rattle.mv_walk.proofs.laws.walkers_may_be_asked.Goals as goal

pub returns-clause-stands : goal.returns-clause-stands
returns-clause-stands g c = λ w us stood. stands-go w us stood

pub returns-clause-walked : goal.returns-clause-walked
returns-clause-walked g c = λ w o us byte u step walked. walked-goes w o us byte u step walked

pub returns-clause-failed : goal.returns-clause-failed
returns-clause-failed g c = λ w error is. failed-goes w error is
