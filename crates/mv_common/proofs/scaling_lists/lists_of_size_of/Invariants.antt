use Rattle.std.proofs.Common.{◌≡◌}
use Rattle.mv_syntax.specs.inner.Reader.{read}
use Rattle.mv_syntax.specs.Loops.{each}
use Rattle.mv_syntax.specs.inner.Turns.{rest_of_items}
use Rattle.mv_common.specs.ScalingLists.{scaling_list, lists_of_size}
use Rattle.mv_common.proofs.scaling_lists.lists_of_size_of.Given as goal

abbrev pub invariant-loop-k : goal.invariant-loop-k
invariant-loop-k l =
    (read (lists_of_size l.s) l.fn.bits.left ≡ rest_of_items (each (scaling_list l.s)) l.k l.turns l.lists.items l.bits.left)
    × (l.bits.total ≡ l.fn.bits.total)
