use Rattle.std.proofs.Common.{ap, sym, ◌∙◌}
use Rattle.mv_fields.specs.Faults.{means}
use Rattle.mv_vps.proofs.Aligned.{ne_is, eq_is, taken_since, base_fails, plain_read, ones_read, ones_fail}
use Rattle.mv_vps.proofs.base.aligned_base_of.Goals as goal

pub returns-in-Err : goal.returns-in-Err
returns-in-Err c = base_fails _ (means c.in-Err.fault) c.in-Err.ensures

pub returns-then-base-ne1 : goal.returns-then-base-ne1
returns-then-base-ne1 c = (
  plain_read _ _ _ c.in-Ok.ensures.0 (ne_is _ (λ e. c.if-base-ne1.true (ap (λ b. b.vps_extension_flag) c.base.view_is ∙ e))),
  c.in-Ok.ensures.1,
)

pub returns-in-Ok-take_ones : goal.returns-in-Ok-take_ones
returns-in-Ok-take_ones c = (
  ones_read _ _ _ _ _ c.in-Ok.ensures.0 (eq_is _ (sym (ap (λ b. b.vps_extension_flag) c.base.view_is) ∙ c.if-base-ne1.false))
      (taken_since c.args.bits.now _ c.requires.at_head c.in-Ok.ensures.1) c.in-Ok-take_ones.ensures.0,
  c.in-Ok-take_ones.ensures.1 ∙ c.in-Ok.ensures.1,
)

pub returns-in-Err-take_ones : goal.returns-in-Err-take_ones
returns-in-Err-take_ones c =
    rw c.from.ensures
    (ones_fail _ _ _ _ c.in-Ok.ensures.0 (eq_is _ (sym (ap (λ b. b.vps_extension_flag) c.base.view_is) ∙ c.if-base-ne1.false))
    (taken_since c.args.bits.now _ c.requires.at_head c.in-Ok.ensures.1) c.in-Err-take_ones.ensures)
