use Rattle.mv_units.proofs.Silent.{soon-refused, end-rule}
use Rattle.mv_units.proofs.laws.bytes_that_show_nothing.Goals as goal

pub returns-clause-more : goal.returns-clause-more
returns-clause-more c = λ t quiet. let soon = soon-refused t quiet in (soon.refusal, soon.shown, soon.unit, soon.early)

pub returns-clause-end : goal.returns-clause-end
returns-clause-end c = λ t r quiet is. end-rule t r quiet is
