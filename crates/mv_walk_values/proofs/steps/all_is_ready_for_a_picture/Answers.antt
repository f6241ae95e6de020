use Rattle.mv_walk_values.proofs.Ready.{ready_counted, ready_here, ready_start}
use Rattle.mv_walk_values.proofs.steps.all_is_ready_for_a_picture.Goals as goal

pub returns-clause-here : goal.returns-clause-here
returns-clause-here g c = ready_here _

pub returns-clause-start : goal.returns-clause-start
returns-clause-start g c = ready_start _

pub returns-clause-counted : goal.returns-clause-counted
returns-clause-counted g c = ready_counted _
