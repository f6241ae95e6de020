use Rattle.std.proofs.Common.{◌<◌, ◌^◌, arith, pow_mono}
use Rattle.std.proofs.lemmas.Nat.{one_shl}
use Rattle.mv_syntax.proofs.BitLaws.{take_bits-printed}
use Rattle.mv_bits.proofs.reader.BitReader.long_ue.Goals as goal

pub overflow_cast-result-2 : goal.overflow_cast-result-2
overflow_cast-result-2 c =
    let low : c.in_ok-low.low < 2 ^ c.in_ok-zeros.zeros = (take_bits-printed _ _ _ _ c.in_ok-low.ensures.0).1 in
    omega (arith, low, pow_mono c.in_ok-zeros.ensures.most)

pub overflow_add-result : goal.overflow_add-result
overflow_add-result c =
    let low : c.in_ok-low.low < 2 ^ c.in_ok-zeros.zeros = (take_bits-printed _ _ _ _ c.in_ok-low.ensures.0).1 in
    let most = pow_mono c.in_ok-zeros.ensures.most in
    let narrow : c.in_ok-zeros.zeros < 32 = omega (arith, c.in_ok-zeros.ensures.most) in
    let one = one_shl c.in_ok-zeros.zeros 32 narrow in
    omega (arith, low, most, one)
