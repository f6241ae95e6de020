use Rattle.std.proofs.Common.{◌≡◌}
use Rattle.mv_syntax.specs.Table.{u}
use Rattle.mv_syntax.specs.inner.Reader.{read}
use Rattle.mv_syntax.specs.Loops.{each, us}
use Rattle.mv_syntax.specs.inner.Turns.{rest_of_items}
use Rattle.mv_fields.proofs.loops.u8s_of.Given as goal

abbrev pub invariant-loop-i : goal.invariant-loop-i
invariant-loop-i l =
    (read (us 0 l.n l.width) l.fn.bits.left ≡ rest_of_items (each (u l.width)) l.i l.n l.all.items l.bits.left)
    × (l.bits.total ≡ l.fn.bits.total)
