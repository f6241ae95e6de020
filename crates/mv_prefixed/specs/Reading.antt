-- How a byte string is read in the length-prefixed form (this project's profile): as many plain units as stand at its
-- front one behind the other, and the rest behind them. By law that is its longest front that is a length-prefixed
-- form of plain units.
use Rattle.std.specs.Prelude.{ℕ, ◌+◌, ◌-◌, ◌^◌, Bool, cond, ◌==◌, ◌&&◌, nat_lt, if◌then◌else◌, List, [], ◌∷◌, length, take, drop, zero, suc, slice_index, Option, None, Some}
use Rattle.std.specs.Int.{from_be_bytes, w32}
use Rattle.std.specs.List.{list_all}
use Rattle.mv_rules.specs.declared.rule.Rule.{Rule}
use Rattle.mv_rules.specs.declared.refusal.Refusal.{Refusal}
use Rattle.mv_units.specs.Rules.{has_emulation, longest_unit}
use Rattle.mv_units.specs.Units.{NalUnit, has_code}

-- the length that the first four bytes of a string spell, the most significant first; numbers that are no bytes
-- spell none, which counts as 2^32
abbrev pub is_byte : ℕ → Bool
is_byte b = nat_lt b 256

abbrev pub spelled : List ℕ → ℕ
spelled s = if list_all is_byte (take 4 s) then from_be_bytes w32 (take 4 s) else 2 ^ 32

-- the rule that a length breaks: Short where it is below 2, Long where it is above 16,777,216
abbrev pub length_rule : ℕ → Option Rule
length_rule n = cond (nat_lt n 2) (Some Rule.Short) (cond (nat_lt longest_unit n) (Some Rule.Long) None)

-- whether the last byte is zero
abbrev pub ends_in_zero : List ℕ → Bool
ends_in_zero u = slice_index u (length u - 1) == 0

-- the least of the rules that the bytes of a unit break, whose length breaks none
abbrev pub bytes_rule : List ℕ → Option Rule
bytes_rule u = cond (has_emulation u) (Some Rule.Emulation)
    (cond (has_code u) (Some Rule.InnerCode) (cond (ends_in_zero u) (Some Rule.LastZero) None))

-- what stands at the front of a string
pub data Front : Type 0 where
  -- it ends before a length and all bytes of its unit
  Open : Front
  -- a unit that isn't plain
  Broken : Rule → Front
  -- a plain unit, and what stands behind it
  Whole : List ℕ → List ℕ → Front

abbrev pub unit_front : List ℕ → List ℕ → Front
unit_front u rest = elim (bytes_rule u) [ Some rule ↦ Broken rule | None ↦ Whole u rest ]

abbrev pub body_front : ℕ → List ℕ → Front
body_front n s = cond (nat_lt (length s) n) Open (unit_front (take n s) (drop n s))

abbrev pub length_front : ℕ → List ℕ → Front
length_front n s = elim (length_rule n) [ Some rule ↦ Broken rule | None ↦ body_front n s ]

abbrev pub front : List ℕ → Front
front s = cond (nat_lt (length s) 4) Open (length_front (spelled s) (drop 4 s))

-- the units at the front of a string, by their bytes, and the rest behind them
pub record Reading : Type 0 where
  pub units : List (List ℕ)
  pub rest : List ℕ

abbrev pub behind : List ℕ → Reading → Reading
behind u r = record { units = u ∷ r.units; rest = r.rest }

-- at most so many units are read: as many as the string has bytes are enough
unfoldable pub read_most : ℕ → List ℕ → Reading
read_most zero s = record { units = []; rest = s }
read_most (suc most) s = elim (front s) [
  | Open ↦ record { units = []; rest = s }
  | Broken rule ↦ record { units = []; rest = s }
  | Whole u rest ↦ behind u (read_most most rest)
]

abbrev pub read : List ℕ → Reading
read s = read_most (length s) s

-- units with their places: each stands behind its length, the first one at the given offset
unfoldable pub placed_at : ℕ → List (List ℕ) → List NalUnit
placed_at at [] = []
placed_at at (u ∷ us) = record { place = at + 4; bytes = u } ∷ placed_at (at + 4 + length u) us

-- the units of a byte string in this form, numbered from 0 by their order
abbrev pub len_units : List ℕ → List NalUnit
len_units s = placed_at 0 (read s).units

-- the rule that the unit behind those breaks, if its length and, where that breaks none, all its bytes are there
abbrev pub rest_rule : List ℕ → Option Rule
rest_rule rest = elim (front rest) [ Open ↦ None | Broken rule ↦ Some rule | Whole u more ↦ None ]

abbrev pub is_empty : List ℕ → Bool
is_empty s = length s == 0

-- the refusal that the bytes taken show, where their end was read or not: the unit behind those that are read, whose
-- place is behind its length, by the rule that it breaks; where it breaks none and the end was read, by Truncated
-- if there is a byte of it, and then the place is the number of bytes
abbrev pub len_refusal : Bool → List ℕ → Option Refusal
len_refusal ended s =
    let r = read s in
    elim (rest_rule r.rest) [
      | Some rule ↦ Some (record { unit = length r.units; byte = length s - length r.rest + 4; rule = rule })
      | None ↦ if ended && nat_lt 0 (length r.rest)
          then Some (record { unit = length r.units; byte = length s; rule = Rule.Truncated }) else None
    ]
