use Rattle.std.proofs.Common.{◌≡◌, length, arith}
use Rattle.mv_syntax.proofs.LoopLaws.{items-length}
use Rattle.mv_syntax.proofs.PrintingLoops.{print_item_step}
use Rattle.mv_slice.specs.Weights.{entry_weights, entry_weights_of_all}
use Rattle.mv_slice.proofs.weights.print_entries.Goals as goal

pub loop-i-preserved : goal.loop-i-preserved
unfolding entry_weights_of_all
loop-i-preserved c =
    let count : length c.args.all.now ≡ c.args.n = items-length (entry_weights c.args.luma.now c.args.chroma.now) 0 c.args.n c.args.all.now c.requires in
    print_item_step (entry_weights c.args.luma.now c.args.chroma.now) 0 _ _ _ c.loop-i.i c.loop-i.i _ _ _ c.loop-i.invariant (omega arith) (omega arith) c.index-all-i.is c.in_ok-outer.ensures
    c.in_ok-print_entry_weights.ensures c.close.ensures
