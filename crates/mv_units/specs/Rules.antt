-- The rules on a unit's own bytes (this project's profile): one definition a rule.
use Rattle.std.specs.Prelude.{Result, Ok, Err, if◌then◌else◌, ℕ, Bool, false, cond, ◌==◌, ◌&&◌, ◌||◌, nat_lt, nat_le, List, [], ◌∷◌, length, take, Option, None, Some}
use Rattle.mv_rules.specs.declared.rule.Rule.{Rule}
use Rattle.mv_units.specs.declared.head.UnitHead.{UnitHead}
use Rattle.mv_units.specs.Head.{head, forbidden_zero_bit, nal_unit_type, nuh_temporal_id_plus1, temporal_id}

-- the greatest number of bytes of a unit, 2^24 (this project's profile)
abbrev pub longest_unit : ℕ
longest_unit = 16777216

-- short: fewer bytes than a head has (7.3.1.2)
abbrev pub short_unit : List ℕ → Bool
short_unit u = nat_lt (length u) 2

-- whether a string begins with bytes that may stand nowhere in a unit (7.4.2): 00 00 00, 00 00 02, or
-- 00 00 03 and a byte above 03; the fourth of these, 00 00 01, begins the next unit
abbrev pub above_three : List ℕ → Bool
above_three [] = false
above_three (d ∷ s) = nat_lt 3 d

abbrev pub begins_emulation : List ℕ → Bool
begins_emulation (a ∷ b ∷ c ∷ s) = (a == 0) && (b == 0) && ((c == 0) || (c == 2) || ((c == 3) && above_three s))
begins_emulation s = false

-- whether such bytes stand somewhere in a string
unfoldable pub has_emulation : List ℕ → Bool
has_emulation [] = false
has_emulation (a ∷ s) = begins_emulation (a ∷ s) || has_emulation s

-- emulation: such bytes stand in the first 16,777,216 bytes (7.4.2; the number is this project's profile)
abbrev pub emulation : List ℕ → Bool
emulation u = has_emulation (take longest_unit u)

-- long: more than 16,777,216 bytes (this project's profile)
abbrev pub long_unit : List ℕ → Bool
long_unit u = nat_lt longest_unit (length u)

-- whether the type is one of an IRAP picture, 16 to 23 (7.4.2.2, Table 7-1)
abbrev pub is_irap_type : ℕ → Bool
is_irap_type kind = nat_le 16 kind && nat_le kind 23

-- head: forbidden_zero_bit is 1, or nuh_temporal_id_plus1 is 0, or an IRAP type has TemporalId above 0 (7.4.2.2)
abbrev pub bad_head : List ℕ → Bool
bad_head u = (forbidden_zero_bit u == 1) || (nuh_temporal_id_plus1 u == 0)
    || (is_irap_type (nal_unit_type u) && nat_lt 0 (temporal_id u))

-- the least of the rules that the bytes of a unit break before its end is known, if they do: these bytes break
-- it however the unit goes on (this project's profile)
abbrev pub early_rule : List ℕ → Option Rule
early_rule u = cond (emulation u) (Some Rule.Emulation) (cond (long_unit u) (Some Rule.Long) None)

-- the least of the rules on the bytes of a unit, whatever they stand for, that it breaks, if it breaks one
abbrev pub unit_rule : List ℕ → Option Rule
unit_rule u = cond (short_unit u) (Some Rule.Short) (early_rule u)

-- the head of a unit, or the least of the rules Short and Head that holds for it
abbrev pub checked_head : List ℕ → Result UnitHead Rule
checked_head u = if short_unit u then Err Rule.Short else (if bad_head u then Err Rule.Head else Ok (head u))
