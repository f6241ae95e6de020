-- What a fault tells.
use Rattle.std.specs.Prelude.{◌≡◌, Option, Some, ⊤}
use Rattle.mv_rules.specs.declared.rule.Rule.{Rule}
use Rattle.mv_rps.specs.declared.fault.RefFault.{RefFault}
use Rattle.mv_rps.specs.declared.fault.RefFault.TheVariants.{Refused, Memory}

-- a fault tells just the rule that refuses; want of memory tells nothing
abbrev pub IsTold : RefFault → Option Rule → Type 0
IsTold Memory refusal = ⊤
IsTold (Refused rule) refusal = refusal ≡ Some rule
