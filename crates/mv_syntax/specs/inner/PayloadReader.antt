-- The reader of payloads on lists of bits.
use Rattle.std.specs.Prelude.{◌-◌, Bool, List, length, Option, Result, Ok, Err, if◌then◌else◌, nat_lt}
use Rattle.mv_syntax.specs.Bits.{Fault, breaks}
use Rattle.mv_syntax.specs.Bits as bits
use Rattle.mv_rules.specs.Rule.{rule_number}
use Rattle.mv_syntax.specs.Payload.{Payload, size_limit}
use Rattle.mv_syntax.specs.inner.Ending.{read_end}
use Rattle.mv_syntax.specs.inner.Reader.{read}

unfoldable pub read_payload : {A : Type 0} → Payload A → List Bool → Result (A × Option (List Bool)) Fault
read_payload p b =
    if nat_lt size_limit (length b) then Err (breaks (rule_number p.size_rule))
    else bits.◌>>=◌ (read p.fields b) (λ x. bits.◌>>=◌ (read_end (p.has_tail x.0) (length b - length x.1) x.1) (λ tail. Ok (x.0, tail)))
