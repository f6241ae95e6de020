use Rattle.std.proofs.Common.{◌≡◌, ◌≤◌, ◌-◌}
use Rattle.std.specs.Prelude.{nat_le, ◌^◌}
use Rattle.mv_fields.specs.Widths.{clog2}
use Rattle.mv_fields.specs.inner.Search.{first_from}
use Rattle.mv_fields.proofs.widths.clog2.Given as goal

abbrev pub invariant-double : goal.invariant-double
invariant-double l = record {
  first : clog2 l.x ≡ first_from (32 - l.k) l.k (λ j. nat_le l.x (2 ^ j));
  within : l.k ≤ l.most;
}

abbrev pub decreases-double : goal.decreases-double
decreases-double l = l.most - l.k
