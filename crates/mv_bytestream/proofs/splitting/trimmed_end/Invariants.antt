use Rattle.std.proofs.Common.{◌≡◌, ◌-◌, ◌≤◌, slice_range}
use Rattle.mv_units.specs.Units.{trimmed}
use Rattle.mv_bytestream.proofs.splitting.trimmed_end.Given as goal

abbrev pub invariant-loop-to : goal.invariant-loop-to
invariant-loop-to l = record {
  low : l.from ≤ l.to;
  high : l.to ≤ l.end;
  same : trimmed (slice_range l.bytes l.from l.to) ≡ trimmed (slice_range l.bytes l.from l.end);
}

abbrev pub decreases-loop-to : goal.decreases-loop-to
decreases-loop-to l = l.to - l.from
