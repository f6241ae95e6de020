use Rattle.std.proofs.Common.{◌∙◌, ap, nat_abs, to_z-of_z, SFits, w32, rules, arith}
use Rattle.std.proofs.lemmas.Int.{ints}
use Rattle.mv_bits.proofs.Readings.{unsigned_positive, unsigned_other}
use Rattle.mv_bits.proofs.writer.unsigned.Goals as goal

pub returns-then-value-gt0 : goal.returns-then-value-gt0
returns-then-value-gt0 c =
    let fits : SFits w32 c.args.value = search rules in
    unsigned_positive c.args.value _ (c.unsigned_abs-size.ensures.value ∙ ap nat_abs (to_z-of_z fits)) (omega (arith, ints))

pub returns-else-value-gt0 : goal.returns-else-value-gt0
returns-else-value-gt0 c =
    let fits : SFits w32 c.args.value = search rules in
    unsigned_other c.args.value _ (c.unsigned_abs-size.ensures.value ∙ ap nat_abs (to_z-of_z fits)) (omega (arith, ints))
