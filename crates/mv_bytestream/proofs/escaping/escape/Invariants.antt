use Rattle.std.proofs.Common.{◌≡◌, ◌-◌, ◌≤◌, ◌++◌, drop, length}
use Rattle.mv_units.specs.Escapes.{escape as unit_of, escaped}
use Rattle.mv_bytestream.proofs.escaping.escape.Given as goal

abbrev pub invariant-loop-to : goal.invariant-loop-to
invariant-loop-to l = record {
  inside : l.from ≤ length l.payload;
  same : l.unit.items ++ escaped 3 3 (drop l.from l.payload) ≡ unit_of l.fn.head l.payload;
}

abbrev pub decreases-loop-to : goal.decreases-loop-to
decreases-loop-to l = length l.payload - l.from
