use Rattle.std.proofs.Common.{◌≡◌, ◌-◌, ◌≤◌, ◌++◌, drop, length}
use Rattle.mv_units.specs.Escapes.{payload}
use Rattle.mv_bytestream.proofs.unescaping.unescape.Given as goal

abbrev pub invariant-loop-from : goal.invariant-loop-from
invariant-loop-from l = record {
  low : 2 ≤ l.from;
  same : l.bytes.items ++ payload (drop (l.from - 2) l.unit) ≡ payload l.unit;
}

abbrev pub decreases-loop-from : goal.decreases-loop-from
decreases-loop-from l = length l.unit - l.from
