use Rattle.std.proofs.Common.{◌≡◌, ◌++◌, take}
use Rattle.mv_syntax.specs.Bits.{byte_bits}
use Rattle.mv_bits.proofs.ending.push_bytes.Given as goal

abbrev pub invariant-loop-byte : goal.invariant-loop-byte
invariant-loop-byte l = l.tail.items ≡ l.initial.tail.items ++ byte_bits (take l.byte-index l.bytes)
