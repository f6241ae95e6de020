use Rattle.mv_judging.proofs.Judged.{judged-push, judged-stays}
use Rattle.mv_judging.proofs.laws.units_more_are_judged.Goals as goal

pub returns-clause-push : goal.returns-clause-push
returns-clause-push c = judged-push

pub returns-clause-stays : goal.returns-clause-stays
returns-clause-stays c = judged-stays
