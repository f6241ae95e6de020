use Rattle.std.proofs.Common.{◌≡◌}
use Rattle.mv_syntax.specs.inner.Reader.{read}
use Rattle.mv_syntax.specs.inner.Turns.{rest_of_items}
use Rattle.mv_common.specs.ScalingLists.{coefficient, coefficients}
use Rattle.mv_common.proofs.scaling_lists.coefficients_of.Given as goal

abbrev pub invariant-loop-k : goal.invariant-loop-k
invariant-loop-k l =
    (read (coefficients l.coded l.s) l.fn.bits.left ≡ rest_of_items coefficient l.k l.turns l.list.items l.bits.left)
    × (l.bits.total ≡ l.fn.bits.total)
