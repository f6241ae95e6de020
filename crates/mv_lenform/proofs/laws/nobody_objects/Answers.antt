use Rattle.mv_lenform.proofs.Round.{event-form, form-event, seen-shown}
use Rattle.mv_lenform.proofs.laws.nobody_objects.Goals as goal

pub returns-clause-seen : goal.returns-clause-seen
returns-clause-seen c = seen-shown

pub returns-clause-form : goal.returns-clause-form
returns-clause-form c = form-event

pub returns-clause-only : goal.returns-clause-only
returns-clause-only c = event-form
