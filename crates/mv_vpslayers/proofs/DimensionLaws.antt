-- The widths of fields that a valid value gives.
use Rattle.std.proofs.Common.{ℕ, ◌≤◌, ◌<◌, ◌^◌, Bool, Option, Some, None, arith}
use Rattle.mv_syntax.specs.Table.{u, when, Valid}
use Rattle.mv_syntax.specs.Words.{or_zero}

pub valid_len : (c : Bool) (len : Option ℕ) → Valid (when c (u 3)) len → or_zero len ≤ 7
valid_len c None h = omega arith
valid_len c (Some len) h = let small : len < 2 ^ 3 = h.1 in omega arith

pub ruleset dimension_steps = (valid_len)
