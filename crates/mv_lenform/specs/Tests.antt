-- Tests of the bytes at a place in a unit.
use Rattle.std.specs.Prelude.{ℕ, Bool, false, List, ◌∷◌}
use Rattle.mv_units.specs.Units.{is_code}

-- whether a string begins with a start code prefix
abbrev pub begins_code : List ℕ → Bool
begins_code (a ∷ b ∷ c ∷ s) = is_code a b c
begins_code s = false
