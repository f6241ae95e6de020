use Rattle.std.proofs.Common.{◌≡◌, ◌<◌, ◌^◌, take}
use Rattle.mv_syntax.specs.Bits.{u_bits}
use Rattle.mv_bits.proofs.ending.number_of.Given as goal

abbrev pub invariant-loop-bit : goal.invariant-loop-bit
invariant-loop-bit l = record {
  bits : u_bits l.bit-index l.number ≡ take l.bit-index l.bits;
  in_range : l.number < 2 ^ l.bit-index;
}
