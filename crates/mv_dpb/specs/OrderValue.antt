-- What is kept of the output order of one output layer set.
use Rattle.std.specs.Prelude.{ℕ, ℤ, Option, List}
use Rattle.mv_dpb.specs.declared.set_order.Counted.{Counted}

-- the greatest number of access units that may wait, the last access unit with its count, and the greatest counts, rising
pub record OrderValue : Type 0 where
  pub reorder : ℕ
  pub last : Option Counted
  pub tops : List ℤ
