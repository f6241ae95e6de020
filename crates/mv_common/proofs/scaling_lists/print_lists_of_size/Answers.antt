use Rattle.std.proofs.Common.{◌≡◌, ◌/◌, ◌∙◌, sym, subst, length, arith}
use Rattle.mv_syntax.specs.Table.{Valid}
use Rattle.mv_syntax.specs.Loops.{each}
use Rattle.mv_syntax.proofs.LoopLaws.{items_numbered-length, items_numbered-valid}
use Rattle.mv_syntax.proofs.PrintingLoops.{print_numbered_step}
use Rattle.mv_common.specs.ScalingLists.{scaling_list, matrix_step, matrix_id, lists_of_size}
use Rattle.mv_common.proofs.scaling_lists.print_lists_of_size.Goals as goal

pub print_scaling_list-requires : goal.print_scaling_list-requires
unfolding lists_of_size each
print_scaling_list-requires c =
    let count : length c.args.lists.now ≡ 6 / matrix_step c.args.s = items_numbered-length (matrix_id c.args.s) (each (scaling_list c.args.s)) (6 / matrix_step c.args.s) c.args.lists.now c.requires in
    subst (λ v. Valid (scaling_list c.args.s) v) (sym (rw c.from-in-loop-k.ensures at c.index-lists-from.is))
    (items_numbered-valid (matrix_id c.args.s) (each (scaling_list c.args.s)) (6 / matrix_step c.args.s) c.args.lists.now c.loop-k.k _ c.requires (omega arith))

pub loop-k-preserved : goal.loop-k-preserved
unfolding lists_of_size each
loop-k-preserved c =
    let count : length c.args.lists.now ≡ 6 / matrix_step c.args.s = items_numbered-length (matrix_id c.args.s) (each (scaling_list c.args.s)) (6 / matrix_step c.args.s) c.args.lists.now c.requires in
    print_numbered_step (matrix_id c.args.s) (each (scaling_list c.args.s)) (6 / matrix_step c.args.s) _ _ c.loop-k.k _ _ _ _ c.loop-k.invariant (omega arith) (c.from.ensures ∙ c.matrix_id.ensures) (rw c.from-in-loop-k.ensures at c.index-lists-from.is) c.in_ok-outer.ensures
    c.in_ok-print_scaling_list.ensures c.close.ensures
