use Rattle.std.proofs.Common.{◌<◌, ◌∙◌, ap, sym, arith}
use Rattle.mv_syntax.specs.Bits.{take_ue}
use Rattle.mv_bits.specs.Cursor.{Cursor}
use Rattle.mv_bits.proofs.Codes.{exponent_lt, code_in_hand}
use Rattle.mv_bits.proofs.reader.BitReader.ue_in_hand.Goals as goal

pub overflow_sub-zeros-2 : goal.overflow_sub-zeros-2
overflow_sub-zeros-2 c =
    let inside : c.ilog2-behind.result < c.self.inside.count
    = exponent_lt c.ilog2-behind.result c.self.inside.count c.self.inside.word c.ilog2-behind.ensures.power_le c.self.invariant.1
    in
    omega arith

pub overflow_sub-result : goal.overflow_sub-result
overflow_sub-result c =
    (code_in_hand c.self.inside.count c.self.inside.word c.ilog2-behind.result c.self.invariant.0 c.self.invariant.1 c.ilog2-behind.ensures.power_le c.ilog2-behind.ensures.next_power_gt c.if-behind-zeros.false).positive

pub overflow_cast-result : goal.overflow_cast-result
overflow_cast-result c =
    omega (arith, (code_in_hand c.self.inside.count c.self.inside.word c.ilog2-behind.result c.self.invariant.0 c.self.invariant.1 c.ilog2-behind.ensures.power_le c.ilog2-behind.ensures.next_power_gt c.if-behind-zeros.false).small)

pub invariant_of-self : goal.invariant_of-self
invariant_of-self c =
    let code = (code_in_hand c.self.inside.count c.self.inside.word c.ilog2-behind.result c.self.invariant.0 c.self.invariant.1 c.ilog2-behind.ensures.power_le c.ilog2-behind.ensures.next_power_gt c.if-behind-zeros.false) in
    let inside : c.ilog2-behind.result < c.self.inside.count
    = exponent_lt c.ilog2-behind.result c.self.inside.count c.self.inside.word c.ilog2-behind.ensures.power_le c.self.invariant.1
    in
    (code.narrow, code.low, omega (arith, c.self.invariant.2), c.self.invariant.3)

pub returns : goal.returns
returns c = (
  ap (λ (r : Cursor). take_ue r.left) (sym c.self.view_is) ∙ (code_in_hand c.self.inside.count c.self.inside.word c.ilog2-behind.result c.self.invariant.0 c.self.invariant.1 c.ilog2-behind.ensures.power_le c.ilog2-behind.ensures.next_power_gt c.if-behind-zeros.false).read c.self.inside.bytes.now,
  ap (λ (r : Cursor). r.total) c.self.view_is,
)
