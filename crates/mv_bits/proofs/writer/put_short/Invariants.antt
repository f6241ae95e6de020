use Rattle.std.proofs.Common.{◌++◌, take}
use Rattle.mv_syntax.specs.Bits.{u_bits}
use Rattle.mv_bits.specs.inner.Written.{written_bits}
use Rattle.mv_bits.proofs.Written.{Pending}
use Rattle.mv_bits.proofs.writer.put_short.Given as goal

abbrev pub invariant-bytes : goal.invariant-bytes
invariant-bytes l =
    Pending l.left l.word l.bytes.items (take l.before l.initial.bytes.items) l.before (written_bits l.initial.bytes.items l.fn.last.1 l.fn.last.0 ++ u_bits l.n l.value)

abbrev pub decreases-bytes : goal.decreases-bytes
decreases-bytes l = l.left
