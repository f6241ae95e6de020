use Rattle.std.proofs.Common.{◌≡◌, ◌∙◌, ◌<ℤ◌, ◌^◌, pos, ap, arith, rules, SFits, w32, to_z-of_z}
use Rattle.std.proofs.lemmas.Int.{ints}
use Rattle.mv_syntax.specs.Bits.{se_code, se_bits}
use Rattle.mv_syntax.proofs.BitLaws.{se_code-range}
use Rattle.mv_bits.proofs.writer.BitWriter.se.Goals as goal

pub ue-requires : goal.ue-requires
ue-requires c =
    let fits : SFits w32 c.args.value = search rules in
    let code : c.unsigned.result ≡ se_code c.args.value = c.unsigned.ensures ∙ ap se_code (to_z-of_z fits) in
    let top : c.args.value <ℤ pos (2 ^ 31) = omega (arith, ints) in
    rw code (se_code-range c.args.value c.requires top)

pub returns-clause-ok : goal.returns-clause-ok
unfolding se_bits
returns-clause-ok c =
    let fits : SFits w32 c.args.value = search rules in
    let code : c.unsigned.result ≡ se_code c.args.value = c.unsigned.ensures ∙ ap se_code (to_z-of_z fits) in
    rw (← code) c.ue.ensures.ok
