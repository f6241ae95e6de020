use Rattle.std.proofs.Common.{◌≡◌}
use Rattle.mv_syntax.specs.Table.{u}
use Rattle.mv_syntax.specs.inner.Reader.{read}
use Rattle.mv_syntax.specs.Loops.{each, us}
use Rattle.mv_syntax.specs.inner.Turns.{rest_of_items}
use Rattle.mv_vpsext.proofs.ending.extension_bytes_of.Given as goal

abbrev pub invariant-loop-i : goal.invariant-loop-i
invariant-loop-i l =
    (read (us 1 l.length 8) l.fn.bits.left ≡ rest_of_items (each (u 8)) l.i l.end l.all.items l.bits.left)
    × (l.bits.total ≡ l.fn.bits.total)
