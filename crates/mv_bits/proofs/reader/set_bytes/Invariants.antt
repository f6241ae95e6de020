use Rattle.std.proofs.Common.{◌≤◌, length}
use Rattle.mv_bits.proofs.LastSet.{ZerosFrom}
use Rattle.mv_bits.proofs.reader.set_bytes.Given as goal

abbrev pub invariant-byte : goal.invariant-byte
invariant-byte l = record {
  within : l.set ≤ length l.bytes;
  zeros : ZerosFrom l.set l.bytes;
}

abbrev pub decreases-byte : goal.decreases-byte
decreases-byte l = l.set
