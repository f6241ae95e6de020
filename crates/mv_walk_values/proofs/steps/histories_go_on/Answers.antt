use Rattle.mv_walk_values.proofs.Near.{fresh, next_orderly, next_timely}
use Rattle.mv_walk_values.proofs.steps.histories_go_on.Goals as goal

pub returns-clause-orderly : goal.returns-clause-orderly
returns-clause-orderly c = next_orderly

pub returns-clause-timely : goal.returns-clause-timely
returns-clause-timely c = next_timely

pub returns-clause-first : goal.returns-clause-first
returns-clause-first c = fresh
