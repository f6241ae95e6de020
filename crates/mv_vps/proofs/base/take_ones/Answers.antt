use Rattle.std.proofs.Common.{ap, ◌∙◌, sym}
use Rattle.mv_syntax.specs.Bits.{to_byte_end}
use Rattle.mv_vps.proofs.Aligned.{all_ones, ones_there, ones_other, ones_short, below_power}
use Rattle.mv_vps.proofs.base.take_ones.Goals as goal

pub returns-in-Ok : goal.returns-in-Ok
returns-in-Ok c = (
  ones_there (to_byte_end c.place.result) _ _ _ _ (ap to_byte_end c.place.ensures) (below_power _) c.in-Ok.ensures.takes.0 (c.if-ones-all.true ∙ all_ones c.place.result),
  c.in-Ok.ensures.takes.1,
)

pub returns-in-Ok-2 : goal.returns-in-Ok-2
returns-in-Ok-2 c =
    ones_other (to_byte_end c.place.result) _ _ _ _ (ap to_byte_end c.place.ensures) (below_power _) c.in-Ok.ensures.takes.0
    (λ e. c.if-ones-all.false (e ∙ sym (all_ones c.place.result)))

pub returns-in-Err : goal.returns-in-Err
returns-in-Err c = ones_short (to_byte_end c.place.result) _ _ _ (ap to_byte_end c.place.ensures) (below_power _) c.in-Err.ensures.takes.0
