-- Rules by their numbers, as tables name them.
use Rattle.std.specs.Prelude.{ℕ, Bool, List, nat_eq}
use Rattle.std.specs.List.{list_any}
use Rattle.mv_rules.specs.Rule.{rule_number}
use Rattle.mv_rules.specs.declared.rule.Rule.{Rule}

-- the number of one of these rules
abbrev pub is_of : List Rule → ℕ → Bool
is_of rules r = list_any (λ s. nat_eq r (rule_number s)) rules
