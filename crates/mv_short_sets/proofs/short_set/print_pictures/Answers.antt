use Rattle.std.proofs.Common.{arith}
use Rattle.mv_syntax.specs.Loops.{each}
use Rattle.mv_syntax.proofs.LoopLaws.{columns-lengths, columns-valid}
use Rattle.mv_syntax.proofs.PrintingLoops.{print_columns_step}
use Rattle.mv_short_sets.specs.ShortSet.{picture}
use Rattle.mv_short_sets.proofs.short_set.print_pictures.Goals as goal

pub print_picture-requires : goal.print_picture-requires
unfolding each
print_picture-requires c =
    let counts = columns-lengths (each (picture c.args.side)) 0 c.args.count c.args.delta_poc_minus1.now c.args.used_by_curr_pic_flag.now c.requires in
    columns-valid (each (picture c.args.side)) 0 c.args.count c.args.delta_poc_minus1.now c.args.used_by_curr_pic_flag.now c.loop-j.j c.loop-j.j 0 0 c.requires
    (omega arith) (omega arith)

pub loop-j-preserved : goal.loop-j-preserved
unfolding each
loop-j-preserved c =
    let counts = columns-lengths (each (picture c.args.side)) 0 c.args.count c.args.delta_poc_minus1.now c.args.used_by_curr_pic_flag.now c.requires in
    print_columns_step (each (picture c.args.side)) 0 _ _ _ _ c.loop-j.j c.from.result 0 0 _ c.loop-j.invariant (omega arith) (omega arith) (omega arith) c.in_ok-outer.ensures
    c.in_ok-print_picture.ensures c.close.ensures
