use Rattle.mv_walk_values.proofs.Numbers.{below_started, latest_reorders}
use Rattle.mv_walk_values.proofs.Timely.{timely}
use Rattle.mv_walk_values.proofs.in_time.histories_are_timely.Goals as goal

pub returns-clause-timely : goal.returns-clause-timely
returns-clause-timely c = timely

pub returns-clause-started : goal.returns-clause-started
returns-clause-started c = λ o past h. below_started o past h.judgements

pub returns-clause-reorder : goal.returns-clause-reorder
returns-clause-reorder c = λ o past h. latest_reorders o past h.judgements
