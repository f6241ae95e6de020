use Rattle.std.proofs.Common.{◌≡◌, ◌||◌, ◌≤◌, ◌-◌, length, drop}
use Rattle.mv_units.specs.Rules.{has_emulation}
use Rattle.mv_units.specs.Units.{has_code}
use Rattle.mv_lenform.proofs.bytes.inner_code.Given as goal

abbrev pub invariant-loop-zero : goal.invariant-loop-zero
invariant-loop-zero l = record {
  within : l.at ≤ length l.unit;
  emulation : has_emulation l.unit ≡ has_emulation (drop l.at l.unit);
  code : has_code l.unit ≡ (l.code || has_code (drop l.at l.unit));
}

abbrev pub decreases-loop-zero : goal.decreases-loop-zero
decreases-loop-zero l = length l.unit - l.at
