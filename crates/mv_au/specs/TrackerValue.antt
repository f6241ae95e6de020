-- What is kept of access units.
use Rattle.std.specs.Prelude.{ℕ, Option}
use Rattle.mv_units.specs.declared.head.UnitHead.{UnitHead}

-- the number of the latest access unit, and the head of its latest picture
pub record TrackerValue : Type 0 where
  pub au : ℕ
  pub picture : Option UnitHead
