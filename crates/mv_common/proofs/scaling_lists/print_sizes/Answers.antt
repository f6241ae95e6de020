use Rattle.std.proofs.Common.{◌≡◌, length, arith}
use Rattle.mv_syntax.proofs.LoopLaws.{items-length}
use Rattle.mv_syntax.proofs.PrintingLoops.{print_item_step}
use Rattle.mv_common.specs.ScalingLists.{lists_of_size, scaling_list_data}
use Rattle.mv_common.proofs.scaling_lists.print_sizes.Goals as goal

pub loop-s-preserved : goal.loop-s-preserved
unfolding scaling_list_data
loop-s-preserved c =
    let count : length c.args.sizes.now ≡ 4 = items-length lists_of_size 0 4 c.args.sizes.now c.requires in
    print_item_step lists_of_size 0 4 _ _ c.loop-s.s c.loop-s.s _ _ _ c.loop-s.invariant (omega arith) (omega arith) (rw c.from-in-loop-s.ensures at c.index-sizes-from.is) (rw c.from.ensures at c.in_ok-outer.ensures)
    c.in_ok-print_size.ensures c.close.ensures
