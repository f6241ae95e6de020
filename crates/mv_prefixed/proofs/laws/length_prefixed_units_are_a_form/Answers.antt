use Rattle.mv_prefixed.proofs.Forms.{form-of}
use Rattle.mv_prefixed.proofs.laws.length_prefixed_units_are_a_form.Goals as goal

pub returns : goal.returns
returns c = record { form = form-of }
