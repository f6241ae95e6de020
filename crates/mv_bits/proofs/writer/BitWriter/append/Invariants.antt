use Rattle.std.proofs.Common.{◌≡◌, ◌++◌, take}
use Rattle.mv_syntax.specs.Bits.{byte_bits}
use Rattle.mv_bits.specs.inner.Written.{Extends}
use Rattle.mv_bits.proofs.writer.BitWriter.append.Given as goal

abbrev pub invariant-loop-byte : goal.invariant-loop-byte
invariant-loop-byte l = record {
  extends : Extends l.before l.initial.self-inside.bytes.items l.self-inside.bytes.items (l.fn.self ++ byte_bits (take l.byte-index l.other-inside.bytes.items)) l.last;
  word : l.self-inside.word ≡ l.initial.self-inside.word;
  count : l.self-inside.count ≡ l.initial.self-inside.count;
}
