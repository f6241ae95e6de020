use Rattle.mv_tried.proofs.Cases.{first_append, first_next, first_nothing}
use Rattle.mv_tried.proofs.laws.cases_are_tried_in_order.Goals as goal

pub returns-clause-none : goal.returns-clause-none
returns-clause-none c = first_nothing

pub returns-clause-next : goal.returns-clause-next
returns-clause-next c = first_next

pub returns-clause-joined : goal.returns-clause-joined
returns-clause-joined c = first_append
