use Rattle.std.proofs.Common.{◌≡◌}
use Rattle.mv_syntax.specs.Table.{ue}
use Rattle.mv_syntax.specs.inner.Reader.{read}
use Rattle.mv_syntax.specs.Loops.{each, ues}
use Rattle.mv_syntax.specs.inner.Turns.{rest_of_items}
use Rattle.mv_fields.proofs.loops.ues_of.Given as goal

abbrev pub invariant-loop-i : goal.invariant-loop-i
invariant-loop-i l =
    (read (ues 0 l.n) l.fn.bits.left ≡ rest_of_items (each ue) l.i l.n l.all.items l.bits.left)
    × (l.bits.total ≡ l.fn.bits.total)
