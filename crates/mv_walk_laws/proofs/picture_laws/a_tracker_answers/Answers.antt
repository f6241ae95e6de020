use Rattle.mv_walk_laws.proofs.Steps.{answer-err, answer-ok, answer-other}
use Rattle.mv_walk_laws.proofs.picture_laws.a_tracker_answers.Goals as goal

pub returns-clause-other : goal.returns-clause-other
returns-clause-other c = answer-other

pub returns-clause-ok : goal.returns-clause-ok
returns-clause-ok c = answer-ok

pub returns-clause-err : goal.returns-clause-err
returns-clause-err c = answer-err
