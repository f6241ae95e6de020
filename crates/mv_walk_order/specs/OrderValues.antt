-- What is kept of the output layer sets of a sequence.
use Rattle.std.specs.Prelude.{ℕ, List}
use Rattle.mv_dpb.specs.OrderValue.{OrderValue}

-- the layers that a set puts out, and its reorder number
pub record SetValue : Type 0 where
  pub outputs : List ℕ
  pub reorder : ℕ

-- what is kept of the output order of each set, and the sets
pub record OrdersValue : Type 0 where
  pub check : List OrderValue
  pub sets : List SetValue
