use Rattle.std.proofs.Common.{length, ◌-◌, ◌≡◌, ◌≤◌, None, false}
use Rattle.mv_bytestream.proofs.scan_tests.units_in_pieces.Given as goal

abbrev pub invariant-loop-at : goal.invariant-loop-at
invariant-loop-at l = record {
  within : l.at ≤ length l.bytes;
  waiting : l.scanner.waiting ≡ None;
  ended : l.scanner.ended ≡ false;
  fed : l.scanner.fed ≤ l.at;
}

abbrev pub decreases-loop-at : goal.decreases-loop-at
decreases-loop-at l = length l.bytes - l.at
