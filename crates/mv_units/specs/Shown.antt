-- What the bytes of a stream that were taken so far show by the rules on a unit's own bytes alone: which units
-- were taken whole, and which refusal there is, whatever bytes follow.
use Rattle.std.specs.Prelude.{◌≡◌, ◌⊎◌, ℕ, ◌+◌, ◌-◌, Bool, if◌then◌else◌, List, [], ◌∷◌, length, take, Option, None, slice_get}
use Rattle.std.specs.Option.{option_map, option_or, option_and_then}
use Rattle.mv_rules.specs.declared.rule.Rule.{Rule}
use Rattle.mv_rules.specs.declared.refusal.Refusal.{Refusal}
use Rattle.mv_units.specs.Units.{NalUnit, units, leading}
use Rattle.mv_units.specs.Rules.{early_rule, unit_rule}

-- the last of a list
abbrev pub last : {A : Type 0} → List A → Option A
last xs = slice_get xs (length xs - 1)

-- a list begins with another
abbrev pub StartsWith : {A : Type 0} → List A → List A → Type 0
StartsWith xs ys = take (length ys) xs ≡ ys

-- the units that were taken whole: all where the end was read, and else those behind which a start code
-- stands, so all but the last (this project's profile)
abbrev pub whole_units : Bool → List ℕ → List NalUnit
whole_units ended s = if ended then units s else take (length (units s) - 1) (units s)

-- the refusal of the byte at a place before the first start code
abbrev pub refused_leading : ℕ → Refusal
refused_leading at = record { unit = 0; byte = at; rule = Rule.Leading }

-- the refusal by a rule of a unit that stands behind n others
abbrev pub refused : ℕ → NalUnit → Rule → Refusal
refused n u rule = record { unit = n; byte = u.place; rule = rule }

-- the rules by which bytes are refused before the end of their unit is known
abbrev pub early_rules : List Rule
early_rules = Rule.Leading ∷ Rule.Emulation ∷ Rule.Long ∷ []

-- a rule is one of some
abbrev pub IsOneOf : List Rule → Rule → Type 0
IsOneOf [] rule = ⊥
IsOneOf (first ∷ rest) rule = (rule ≡ first) ⊎ IsOneOf rest rule

-- the refusal of a unit behind n others by the rules on its bytes, and by those of them that hold however
-- the unit goes on
abbrev pub unit_refusal : ℕ → NalUnit → Option Refusal
unit_refusal n u = option_map (refused n u) (unit_rule u.bytes)

abbrev pub early_refusal : ℕ → NalUnit → Option Refusal
early_refusal n u = option_map (refused n u) (early_rule u.bytes)

-- the refusal of the first unit that is refused, of some units behind n others
unfoldable pub refusal_behind : ℕ → List NalUnit → Option Refusal
refusal_behind n [] = None
refusal_behind n (u ∷ us) = option_or (unit_refusal n u) (refusal_behind (n + 1) us)

abbrev pub first_refusal : List NalUnit → Option Refusal
first_refusal us = refusal_behind 0 us

-- the refusal of the first leading byte
abbrev pub front_refusal : List ℕ → Option Refusal
front_refusal s = option_map refused_leading (leading s)

-- the refusal that the bytes of the last unit show, where its end isn't known
abbrev pub last_refusal : List ℕ → Option Refusal
last_refusal s = option_and_then (early_refusal (length (units s) - 1)) (last (units s))

-- the refusal that the bytes taken show, where the end was read or not: that of the first leading byte, else of
-- the first unit taken whole that is refused, else of the last unit where its bytes so far show it
abbrev pub refusal_shown : Bool → List ℕ → Option Refusal
refusal_shown ended s =
    option_or (front_refusal s) (option_or (first_refusal (whole_units ended s)) (if ended then None else last_refusal s))
