use Rattle.std.proofs.Common.{subst}
use Rattle.mv_syntax.specs.Bits.{byte_bits}
use Rattle.mv_units.specs.Escapes.{payload}
use Rattle.mv_slice.specs.Opening.{opening}
use Rattle.mv_contexts.specs.Units.{PeeksUnit}
use Rattle.mv_contexts.proofs.Peeking.{start-fields, whole-fields, whole-refused}
use Rattle.mv_contexts.proofs.units.peek_unit.Goals as goal

pub returns-in-Err-Refused-clause-fields : goal.returns-in-Err-Refused-clause-fields
returns-in-Err-Refused-clause-fields c = whole-fields c.args.head c.args.unit.now c.peek_start-in-Err-Refused.result c.requires.slice c.peek_start-in-Err-Refused.ensures

pub returns-in-Err-Refused-clause-refused : goal.returns-in-Err-Refused-clause-refused
returns-in-Err-Refused-clause-refused c = whole-refused c.args.head c.args.unit.now c.peek_start-in-Err-Refused.result c.requires.slice c.peek_start-in-Err-Refused.ensures

pub returns-in_default-2-clause-fields : goal.returns-in_default-2-clause-fields
returns-in_default-2-clause-fields c =
    start-fields c.args.head 16 c.args.unit.now c.peek_start.result c.requires.slice
    (subst (λ s. PeeksUnit (opening c.args.head.kind) (byte_bits (payload s)) c.peek_start.result) c.first_bytes.ensures c.peek_start.ensures)
