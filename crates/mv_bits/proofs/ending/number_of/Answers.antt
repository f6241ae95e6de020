use Rattle.std.proofs.Common.{◌≡◌, ◌<◌, false, length, get_or, arith, rules, lit<}
use Rattle.std.specs.Int.{from_bool}
use Rattle.mv_bits.proofs.Tails.{no_bits, next_bits, next_number-lt}
use Rattle.mv_bits.proofs.ending.number_of.Goals as goal

pub loop-bit-init : goal.loop-bit-init
loop-bit-init c = record { bits = no_bits; in_range = lit< tt }

pub loop-bit-preserved : goal.loop-bit-preserved
loop-bit-preserved c =
    let i = c.loop-bit.bit-index in
    let inside : c.loop-bit.bit-index < length c.args.bits.now = search rules in
    let narrow : c.loop-bit.bit-index < 64 = omega (arith, c.requires) in
    let x = get_or c.args.bits.now i false in
    let value : c.from.result ≡ from_bool (get_or c.args.bits.now c.loop-bit.bit-index false) = search rules in
    rw value record {
      bits = next_bits i c.loop-bit.number c.args.bits.now narrow inside c.loop-bit.invariant.in_range c.loop-bit.invariant.bits;
      in_range = next_number-lt i c.loop-bit.number x narrow c.loop-bit.invariant.in_range;
    }
