use Rattle.std.proofs.Common.{◌≡◌, ◌<◌, ◌^◌, ◌∙◌, ◌∷◌, ap, sym, arith, rules}
use Rattle.mv_bits.specs.Cursor.{Cursor}
use Rattle.mv_bits.proofs.Windows.{Holds-from, window_bits-none, window_in_hand, window_first}
use Rattle.mv_bits.proofs.reader.BitReader.next_bits.Goals as goal

pub returns-then-self-gt0 : goal.returns-then-self-gt0
returns-then-self-gt0 c = window_in_hand c.self.inside.bytes (Holds-from _ _ _ _ c.args.self.now c.self.view_is c.self.invariant) c.if-self-gt0.true

pub returns-in_err-first : goal.returns-in_err-first
returns-in_err-first c =
    let none : c.self.inside.count ≡ 0 = omega arith in
    rw c.from_residual.ensures
    (sym (ap (λ (r : Cursor). r.left) c.self.view_is) ∙ window_bits-none c.self.inside.count c.self.inside.word c.self.inside.bytes.now none c.in_err-first.ensures.cases)

pub returns : goal.returns
returns c =
    let first : c.from.result ≡ c.in_ok-first.first.now = c.from.ensures in
    let small : c.from.result < 2 ^ 8 = search rules in
    let split = c.in_ok-first.ensures.cases.0 ∙ ap (λ b. b ∷ c.in_ok-first.rest.now) (sym first) in
    window_first c.from.result c.in_ok-first.rest (Holds-from _ _ _ _ c.args.self.now c.self.view_is c.self.invariant) c.if-self-gt0.false split small
