-- What the faults of a header say of its bits, and the rules that refuse it.
use Rattle.std.specs.Prelude.{ℕ, Option, Some, None, Result, Ok, Err}
use Rattle.mv_syntax.specs.Bits as bits
use Rattle.mv_syntax.specs.Bits.{short, breaks}
use Rattle.mv_rules.specs.Rule.{rule_number}
use Rattle.mv_rules.specs.declared.rule.Rule.{Rule}
use Rattle.mv_rules.specs.declared.refusal.ReadFault.{ReadFault}
use Rattle.mv_rules.specs.declared.refusal.ReadFault.TheVariants.{Refused, Memory as out_of_memory}
use Rattle.mv_fields.specs.declared.fault.Limit.{Limit}
use Rattle.mv_fields.specs.declared.fault.Fault.{Fault}
use Rattle.mv_fields.specs.declared.fault.Fault.TheVariants.{NoBits, Breaks, Memory}

-- the bits are short, or a field breaks a rule; want of memory says nothing
abbrev pub means : Fault Rule → Option bits.Fault
means NoBits = Some short
means (Breaks rule) = Some (breaks (rule_number rule))
means Memory = None

-- the same of a structure that several headers share: a field past its limit is counted as rule 0 until a header says which rule
-- that breaks
abbrev pub shared_means : Fault Limit → Option bits.Fault
shared_means NoBits = Some short
shared_means (Breaks limit) = Some (breaks 0)
shared_means Memory = None

-- the fault of a shared structure in a header whose limit rule this is
abbrev pub broken_as : Rule → Fault Limit → Fault Rule
broken_as rule NoBits = NoBits
broken_as rule (Breaks limit) = Breaks rule
broken_as rule Memory = Memory

-- what a call answered that reads a shared structure, in a header whose limit rule this is
abbrev pub in_header : {X : Type 0} → Rule → Result X (Fault Limit) → Result X (Fault Rule)
in_header rule (Ok x) = Ok x
in_header rule (Err fault) = Err (broken_as rule fault)

-- the refusal of a header: by the rule that a field breaks, or by the header's syntax rule where its bits are short
abbrev pub refusal : Rule → Fault Rule → ReadFault
refusal syntax NoBits = Refused syntax
refusal syntax (Breaks rule) = Refused rule
refusal syntax Memory = out_of_memory
