-- What a byte, or a run of bytes, shows behind a unit in the making.
use Rattle.std.specs.Prelude.{◌≡◌, ℕ, ◌-◌, Bool, false, ◌==◌, ◌&&◌, nat_le, List, length, slice_index}
use Rattle.mv_units.specs.Units.{trimmed}
use Rattle.mv_units.specs.Rules.{has_emulation}

-- the bytes of a unit so far, less the zero bytes at the end, none of which may stand nowhere
pub record IsQuiet (u : List ℕ) : Type 0 where
  pub ends : trimmed u ≡ u
  pub quiet : has_emulation u ≡ false

-- whether bytes end in 00 00 03
abbrev pub ends_three : List ℕ → Bool
ends_three u =
    nat_le 3 (length u) && (slice_index u (length u - 3) == 0) && (slice_index u (length u - 2) == 0)
    && (slice_index u (length u - 1) == 3)
