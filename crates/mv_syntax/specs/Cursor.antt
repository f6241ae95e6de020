-- Where a reader of bits stands.
use Rattle.std.specs.Prelude.{ℕ, ◌-◌, Bool, List, length}

-- a place in a string of bits: how many the whole string has, and those that are not taken yet
pub record Cursor : Type 0 where
  pub total : ℕ
  pub left : List Bool

-- the number of bits taken
abbrev pub place : Cursor → ℕ
place cursor = cursor.total - length cursor.left
