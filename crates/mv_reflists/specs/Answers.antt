-- How the calls answer.
use Rattle.std.specs.Prelude.{Option, Some, None, Result, Ok, Err}
use Rattle.mv_rules.specs.declared.rule.Rule.{Rule}
use Rattle.mv_reflists.specs.declared.fault.ListFault.{ListFault}
use Rattle.mv_reflists.specs.declared.fault.ListFault.TheVariants.{Refused}

-- refused by the rule that is broken, or else the value
abbrev pub answer : {A : Type 0} → Option Rule → A → Result A ListFault
answer (Some rule) value = Err (Refused rule)
answer None value = Ok value
