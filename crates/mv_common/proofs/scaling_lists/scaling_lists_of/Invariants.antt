use Rattle.std.proofs.Common.{◌≡◌}
use Rattle.mv_syntax.specs.inner.Reader.{read}
use Rattle.mv_syntax.specs.inner.Turns.{rest_of_items}
use Rattle.mv_common.specs.ScalingLists.{lists_of_size, scaling_list_data}
use Rattle.mv_common.proofs.scaling_lists.scaling_lists_of.Given as goal

abbrev pub invariant-loop-s : goal.invariant-loop-s
invariant-loop-s l =
    (read scaling_list_data l.fn.bits.left ≡ rest_of_items lists_of_size l.s 4 l.sizes.items l.bits.left)
    × (l.bits.total ≡ l.fn.bits.total)
