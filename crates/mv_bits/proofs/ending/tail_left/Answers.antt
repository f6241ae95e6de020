use Rattle.std.proofs.Common.{◌++◌, ◌∷◌, [], ap, ◌∙◌, sym, arith}
use Rattle.mv_bits.proofs.Tails.{LacksOne-none, LacksOne-word, LacksOne-bytes, Ends-word, Ends-bytes}
use Rattle.mv_bits.proofs.ending.tail_left.Goals as goal

pub returns-in_err-word : goal.returns-in_err-word
returns-in_err-word c = rw c.from_residual.ensures (LacksOne-none c.args.bits.now.left c.in_err-word.ensures)

pub returns-in_err-last : goal.returns-in_err-last
returns-in_err-last c =
    rw c.from_residual-in_err-last.ensures
    (LacksOne-word c.args.bits.now c.in_ok-word.word c.in_ok-word.count c.in_ok-word.rest c.in_ok-word.ensures c.in_default.ensures.cases c.in_err-last.ensures)

pub returns-in_default : goal.returns-in_default
returns-in_default c =
    record {
      ends = Ends-word c.args.bits.now c.in_ok-word.word c.in_ok-word.count c.in_ok-word.rest c.in_ok-last.last c.in_ok-word.ensures c.in_default.ensures.cases c.in_ok-last.ensures;
      first = omega arith;
      last = c.in_ok-last.ensures.narrow;
    }

pub returns-in_err-last-2 : goal.returns-in_err-last-2
returns-in_err-last-2 c =
    let last = c.in-Some.ensures.cases.0 ∙ ap (λ b. c.in-Some.bytes.now ++ b ∷ []) (sym c.from.ensures) in
    rw c.from_residual-in_err-last-2.ensures
    (LacksOne-bytes c.args.bits.now c.in_ok-word.word c.in_ok-word.count c.from.result c.in_ok-word.rest c.in-Some.bytes.now c.in_ok-word.ensures last c.in_err-last-2.ensures)

pub returns : goal.returns
returns c =
    let last = c.in-Some.ensures.cases.0 ∙ ap (λ b. c.in-Some.bytes.now ++ b ∷ []) (sym c.from.ensures) in
    record {
      ends = Ends-bytes c.args.bits.now c.in_ok-word.word c.in_ok-word.count c.from.result c.in_ok-word.rest c.in-Some.bytes.now c.in_ok-last-2.last c.in_ok-word.ensures last c.in_ok-last-2.ensures;
      first = omega (arith, c.in_ok-word.ensures.narrow);
      last = c.in_ok-last-2.ensures.narrow;
    }
