use Rattle.std.proofs.Common.{◌≡◌, ◌+◌, ◌-◌, suc, ◌∙◌, ap, refl, sym, arith, add-one}
use Rattle.std.proofs.lemmas.Result.{MatchResult-from_err}
use Rattle.mv_syntax.specs.Bits.{take_ue, take_ue_from}
use Rattle.mv_bits.proofs.Codes.{ue_no_bit, ue_zero_bit, ue_zero_too_many, ue_one_bit}
use Rattle.mv_bits.proofs.reader.BitReader.zeros.Goals as goal

pub count-init : goal.count-init
unfolding take_ue
count-init c = record { most = omega arith; code = refl; total = refl }

pub returns-in_err-short-clause-code : goal.returns-in_err-short-clause-code
returns-in_err-short-clause-code c = MatchResult-from_err c.from_residual.result _ _ c.from_residual.ensures.0 (λ _. c.count.invariant.code ∙ ue_no_bit (31 - c.count.zeros) c.count.zeros c.count.self.left c.in_err-short.ensures.0)

pub returns-then-zeros-eq31-clause-code : goal.returns-then-zeros-eq31-clause-code
returns-then-zeros-eq31-clause-code c =
    let none : 31 - c.count.zeros ≡ 0 = omega (arith, c.if-zeros-eq31.true) in
    c.count.invariant.code
    ∙ ap (λ n. take_ue_from n c.count.zeros c.count.self.left) none
    ∙ ue_zero_too_many c.count.zeros c.in_ok-short.field-0 c.count.self.left c.short.new.self.left c.in_ok-short.ensures.0 c.if-branch-eq0.true

pub count-preserved : goal.count-preserved
count-preserved c =
    let more : 31 - c.count.zeros ≡ suc (31 - (c.count.zeros + 1)) = omega arith in
    record {
      most = omega arith;
      code = c.count.invariant.code
          ∙ ap (λ n. take_ue_from n c.count.zeros c.count.self.left) more
          ∙ ue_zero_bit (31 - (c.count.zeros + 1)) c.count.zeros c.in_ok-short.field-0 c.count.self.left c.short.new.self.left c.in_ok-short.ensures.0 c.if-branch-eq0.true
          ∙ ap (λ n. take_ue_from (31 - (c.count.zeros + 1)) n c.short.new.self.left) (sym (add-one c.count.zeros));
      total = c.in_ok-short.ensures.1 ∙ c.count.invariant.total;
    }

pub returns-clause-code : goal.returns-clause-code
returns-clause-code c =
    c.count.invariant.code
    ∙ ue_one_bit (31 - c.count.zeros) c.count.zeros c.in_ok-short.field-0 c.count.self.left c.short.new.self.left c.in_ok-short.ensures.0 c.if-branch-eq0.false
