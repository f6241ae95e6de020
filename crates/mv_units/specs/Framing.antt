-- Units as a byte stream (Annex B, B.2.2): before each one a zero_byte and a start code prefix.
use Rattle.std.specs.Prelude.{◌≡◌, ◌≢◌, ℕ, ◌-◌, ◌≤◌, false, List, [], ◌∷◌, ◌++◌, length, slice_index}
use Rattle.mv_units.specs.Units.{has_code}

-- what stands before a unit: zero_byte and start_code_prefix_one_3bytes, 00 00 00 01
abbrev pub long_code : List ℕ
long_code = 0 ∷ 0 ∷ 0 ∷ 1 ∷ []

-- the byte stream of units that are given by their bytes
unfoldable pub frame : List (List ℕ) → List ℕ
frame [] = []
frame (u ∷ us) = long_code ++ (u ++ frame us)

-- a unit that a byte stream carries unchanged: it has a head, no start code prefix within, and a last
-- byte other than zero (7.4.2)
pub record IsFramable (u : List ℕ) : Type 0 where
  pub head : 2 ≤ length u
  pub clean : has_code u ≡ false
  pub ends : slice_index u (length u - 1) ≢ 0
