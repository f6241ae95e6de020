use Rattle.std.proofs.Common.{◌≡◌}
use Rattle.mv_syntax.specs.inner.Reader.{read}
use Rattle.mv_syntax.specs.inner.Turns.{rest_of_items}
use Rattle.mv_vpssets.specs.DpbSizes.{dpb_of_set, dpb_size}
use Rattle.mv_vpssets.proofs.dpb_sizes.dpb_size_of.Given as goal

abbrev pub invariant-loop-i : goal.invariant-loop-i
invariant-loop-i l =
    (read (dpb_size l.sets) l.fn.bits.left ≡ rest_of_items (dpb_of_set l.sets) l.i l.end l.all.items l.bits.left)
    × (l.bits.total ≡ l.fn.bits.total)
