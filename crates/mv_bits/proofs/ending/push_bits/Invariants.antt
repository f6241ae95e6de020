use Rattle.std.proofs.Common.{◌≡◌, ◌≤◌, ◌++◌}
use Rattle.mv_syntax.specs.Bits.{u_bits}
use Rattle.mv_bits.proofs.ending.push_bits.Given as goal

abbrev pub invariant-bit : goal.invariant-bit
invariant-bit l = record {
  within : l.left ≤ l.n;
  pushed : l.tail.items ++ u_bits l.left l.value ≡ l.initial.tail.items ++ u_bits l.n l.value;
}

abbrev pub decreases-bit : goal.decreases-bit
decreases-bit l = l.left
