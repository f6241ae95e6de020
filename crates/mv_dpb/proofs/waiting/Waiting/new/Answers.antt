use Rattle.std.proofs.Common.{◌∙◌, ap, sym, length}
use Rattle.mv_dpb.specs.Waits.{access_units}
use Rattle.mv_dpb.proofs.waiting.Waiting.new.Goals as goal

pub invariant_of-result : goal.invariant_of-result
invariant_of-result g c = (
  ap length c.in_ok-waits.ensures.items ∙ sym (ap length c.in_ok-pictures.ensures.items),
  c.in_ok-waits.ensures.exact ∙ sym c.in_ok-pictures.ensures.exact,
  sym (ap access_units c.in_ok-waits.ensures.items),
  rw c.in_ok-waits.ensures.items tt,
)
