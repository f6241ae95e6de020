-- A slice segment behind a stream: how it is told to the tracker, and how long it is at most.
use Rattle.std.proofs.Common.{◌≡◌, ℕ, ◌≤◌, ◌^◌, Bool, cond, List, length, Some, None, sym, ap₂}
use Rattle.mv_units.specs.Rules.{unit_rule}
use Rattle.mv_units.specs.declared.head.UnitHead.{UnitHead}
use Rattle.mv_units.proofs.Clean.{lawful}
use Rattle.mv_au.specs.Tracker.{IsTold}
use Rattle.mv_walk_sets.specs.declared.roles.Role.{Role}
use Rattle.mv_walk_laws.specs.Streams.{item_behind}
use Rattle.mv_walk.specs.Taking.{IsRole, Peeks}
use Rattle.mv_walk.proofs.FirstOf.{picture-is, segment-is, unit-head}
use Rattle.mv_walk.proofs.RoleParts.{slice_is}

-- a slice segment as it is told, the first one of its picture or another
pub told-segment : (us : List (List ℕ)) (u : List ℕ) (h : UnitHead) (first : Bool) (id : ℕ) → IsRole us u h Role.Slice → Peeks u h first id → IsTold (item_behind us u) h (Some first)
told-segment us u h first id r peek = record {
  known = (slice_is (item_behind us u) r.role_is).known;
  head_is = sym (unit-head us u h Role.Slice r);
  first_is = sym (ap₂ (λ s p. cond s (Some p) None) (segment-is us u h r) (picture-is us u h first id r peek));
}

-- a unit that breaks no rule of its form has at most 2^24 bytes
pub short-unit : (u : List ℕ) → unit_rule u ≡ None → length u ≤ 2 ^ 24
short-unit u clean = (lawful u clean).most
