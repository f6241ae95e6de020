use Rattle.std.proofs.Common.{◌≡◌, length, arith}
use Rattle.mv_syntax.proofs.LoopLaws.{items-length}
use Rattle.mv_syntax.proofs.PrintingLoops.{print_item_step}
use Rattle.mv_slice.specs.Weights.{numbered_list, lists_weights}
use Rattle.mv_slice.proofs.weights.print_lists_weights.Goals as goal

pub loop-i-preserved : goal.loop-i-preserved
unfolding lists_weights
loop-i-preserved c =
    let count : length c.args.all.now ≡ c.args.n = items-length (numbered_list c.args.chroma c.args.active.l0 c.args.active.l1) 0 c.args.n c.args.all.now c.requires in
    print_item_step (numbered_list c.args.chroma c.args.active.l0 c.args.active.l1) 0 _ _ _ c.loop-i.i c.loop-i.i _ _ _ c.loop-i.invariant (omega arith) (omega arith) c.index-all-i.is c.in_ok-outer.ensures
    c.in_ok-print_numbered_list.ensures c.close.ensures
