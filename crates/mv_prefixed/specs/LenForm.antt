-- The length-prefixed form of units (this project's profile): each unit stands behind its length in four bytes,
-- the most significant first.
use Rattle.std.specs.Prelude.{◌≡◌, ◌≢◌, ℕ, ◌-◌, ◌≤◌, false, List, [], ◌∷◌, ◌++◌, length, slice_index}
use Rattle.std.specs.Int.{to_be_bytes, w32}
use Rattle.mv_units.specs.Rules.{has_emulation, longest_unit}
use Rattle.mv_units.specs.Units.{has_code}

-- units, given by their bytes, in this form
unfoldable pub lenform : List (List ℕ) → List ℕ
lenform [] = []
lenform (u ∷ us) = to_be_bytes w32 (length u) ++ (u ++ lenform us)

-- a unit that this form and a byte stream carry unchanged: 2 to 16,777,216 bytes, none of 00 00 00, 00 00 01 and
-- 00 00 02 among them, no 00 00 03 before a byte above 03, and a last byte other than zero (7.4.2; the greatest
-- number is this project's profile)
pub record IsPlain (u : List ℕ) : Type 0 where
  pub head : 2 ≤ length u
  pub most : length u ≤ longest_unit
  pub quiet : has_emulation u ≡ false
  pub clean : has_code u ≡ false
  pub ends : slice_index u (length u - 1) ≢ 0
