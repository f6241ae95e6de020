use Rattle.std.proofs.Common.{◌≡◌, ◌-◌, ◌++◌, All, drop, length, map}
use Rattle.mv_units.specs.Units.{units_at}
use Rattle.mv_bytestream.specs.Spans.{CodeOrEnd, LiesIn, unit_at}
use Rattle.mv_bytestream.proofs.splitting.spans_from.Given as goal

abbrev pub invariant-loop-at : goal.invariant-loop-at
invariant-loop-at l = record {
  stands : CodeOrEnd l.bytes l.at;
  units : units_at l.fn.front (drop l.fn.front l.bytes) ≡ map (unit_at l.bytes) l.spans.items ++ units_at l.at (drop l.at l.bytes);
  inside : All (LiesIn l.bytes) l.spans.items;
}

abbrev pub decreases-loop-at : goal.decreases-loop-at
decreases-loop-at l = length l.bytes - l.at
