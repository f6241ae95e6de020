use Rattle.std.proofs.Common.{◌≡◌}
use Rattle.mv_syntax.specs.inner.Reader.{read}
use Rattle.mv_syntax.specs.inner.Turns.{rest_of_items}
use Rattle.mv_vpssets.specs.DpbSizes.{buffering, bufferings}
use Rattle.mv_vpssets.proofs.dpb_numbers.bufferings_of.Given as goal

abbrev pub invariant-loop-k : goal.invariant-loop-k
invariant-loop-k l =
    (read (bufferings l.necessary) l.fn.bits.left ≡ rest_of_items (buffering l.necessary) l.k l.end l.all.items l.bits.left)
    × (l.bits.total ≡ l.fn.bits.total)
