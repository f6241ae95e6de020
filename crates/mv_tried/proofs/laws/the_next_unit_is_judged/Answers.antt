use Rattle.mv_tried.proofs.Verdicts.{judge-more, objection-more}
use Rattle.mv_tried.proofs.laws.the_next_unit_is_judged.Goals as goal

pub returns-clause-unit : goal.returns-clause-unit
returns-clause-unit c = objection-more

pub returns-clause-by_the_judge : goal.returns-clause-by_the_judge
returns-clause-by_the_judge c = judge-more
