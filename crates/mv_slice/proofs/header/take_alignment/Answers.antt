use Rattle.std.proofs.Common.{◌-◌, ◌%◌, ◌∙◌, sym, arith}
use Rattle.mv_slice.proofs.Alignment.{alignment_there, alignment_other, alignment_short, whole_left, one_shifted, zeros_at}
use Rattle.mv_slice.proofs.header.take_alignment.Goals as goal

pub returns-in_err-value-clause-not_there : goal.returns-in_err-value-clause-not_there
returns-in_err-value-clause-not_there c =
    let e = alignment_short _ (7 - c.place.result % 8) _ _ (zeros_at c.place.result _ c.place.ensures) c.in_err-value.ensures.takes.0 in
    grind (arith, e)

pub returns-then-value-zeros-clause-not_there : goal.returns-then-value-zeros-clause-not_there
returns-then-value-zeros-clause-not_there c =
    alignment_other _ (7 - c.place.result % 8) c.in_ok-value.value _ _ (zeros_at c.place.result _ c.place.ensures) c.in_ok-value.ensures.takes.0
    (λ e. c.if-value-zeros.true (sym e ∙ sym (one_shifted (7 - c.place.result % 8) (omega arith))))

pub returns-clause-there : goal.returns-clause-there
returns-clause-there c =
    alignment_there _ (7 - c.place.result % 8) c.in_ok-value.value _ _ (zeros_at c.place.result _ c.place.ensures) c.in_ok-value.ensures.takes.0
    (c.if-value-zeros.false ∙ one_shifted (7 - c.place.result % 8) (omega arith))

pub returns-clause-whole : goal.returns-clause-whole
returns-clause-whole c =
    whole_left c.args.bits.now.total (7 - c.place.result % 8) c.in_ok-value.value _ _ c.requires.bytes c.requires.within (zeros_at c.place.result _ c.place.ensures)
    c.in_ok-value.ensures.takes.0
