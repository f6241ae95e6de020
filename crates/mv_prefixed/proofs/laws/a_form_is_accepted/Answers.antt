use Rattle.mv_prefixed.proofs.Packed.{accepted-form, form-accepted, read-plain}
use Rattle.mv_prefixed.proofs.laws.a_form_is_accepted.Goals as goal

pub returns-clause-form : goal.returns-clause-form
returns-clause-form c = form-accepted

pub returns-clause-only : goal.returns-clause-only
returns-clause-only c = λ s quiet. (read-plain s, accepted-form s quiet)
