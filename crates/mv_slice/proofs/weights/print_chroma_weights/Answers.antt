use Rattle.std.proofs.Common.{◌≡◌, length, arith}
use Rattle.mv_syntax.specs.Loops.{each}
use Rattle.mv_syntax.proofs.LoopLaws.{items-length, items-valid}
use Rattle.mv_syntax.proofs.PrintingLoops.{print_items_step}
use Rattle.mv_slice.specs.Weights.{chroma_weight, chroma_weights}
use Rattle.mv_slice.proofs.weights.print_chroma_weights.Goals as goal

pub print_chroma_weight-requires : goal.print_chroma_weight-requires
unfolding chroma_weights each
print_chroma_weight-requires c =
    let count : length c.args.all.now ≡ 2 = items-length (each chroma_weight) 0 2 c.args.all.now c.requires in
    items-valid (each chroma_weight) 0 2 c.args.all.now c.loop-j.j c.loop-j.j _ c.requires (omega arith) (omega arith)

pub loop-j-preserved : goal.loop-j-preserved
unfolding chroma_weights each
loop-j-preserved c =
    let count : length c.args.all.now ≡ 2 = items-length (each chroma_weight) 0 2 c.args.all.now c.requires in
    print_items_step (each chroma_weight) 0 _ _ _ c.loop-j.j c.loop-j.j _ _ c.loop-j.invariant (omega arith) (omega arith) c.in_ok-outer.ensures
    c.in_ok-print_chroma_weight.ensures c.close.ensures
