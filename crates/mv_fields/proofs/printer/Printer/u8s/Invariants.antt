use Rattle.std.proofs.Common.{◌≡◌, take}
use Rattle.mv_syntax.specs.Loops.{us}
use Rattle.mv_syntax.specs.Printed.{printed_in}
use Rattle.mv_fields.proofs.printer.Printer.u8s.Given as goal

abbrev pub invariant-loop-i : goal.invariant-loop-i
invariant-loop-i l = l.self ≡ printed_in (us l.first l.n l.width) l.name (take l.i l.fields) l.fn.self
