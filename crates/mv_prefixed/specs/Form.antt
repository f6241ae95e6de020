-- The length-prefixed form as a form in which a byte string carries units (this project's profile).
use Rattle.std.specs.Prelude.{List, [], ◌∷◌}
use Rattle.mv_rules.specs.declared.rule.Rule.{Rule}
use Rattle.mv_judging.specs.Format.{Format}
use Rattle.mv_prefixed.specs.Reading.{len_refusal, len_units}

-- the rules by which bytes are refused before their end is known: all but Truncated
abbrev pub length_rules : List Rule
length_rules = Rule.Short ∷ Rule.Emulation ∷ Rule.Long ∷ Rule.InnerCode ∷ Rule.LastZero ∷ []

-- the units are those that are read, whether the end was read or not
abbrev pub length_form : Format
length_form = record { whole = λ ended s. len_units s; shown = len_refusal; own = length_rules }
