use Rattle.std.proofs.Common.{length, None, arith}
use Rattle.mv_syntax.specs.Loops.{each}
use Rattle.mv_syntax.proofs.LoopLaws.{columns-lengths, columns-valid}
use Rattle.mv_syntax.proofs.PrintingLoops.{print_columns_step}
use Rattle.mv_short_sets.specs.ShortSet.{candidate_flags}
use Rattle.mv_short_sets.proofs.short_set.print_all_candidate_flags.Goals as goal

pub print_candidate_flags-requires : goal.print_candidate_flags-requires
unfolding each
print_candidate_flags-requires c =
    let counts = columns-lengths (each candidate_flags) 0 (length c.args.used_by_curr_pic_flag.now) c.args.used_by_curr_pic_flag.now c.args.use_delta_flag.now c.requires in
    columns-valid (each candidate_flags) 0 (length c.args.used_by_curr_pic_flag.now) c.args.used_by_curr_pic_flag.now c.args.use_delta_flag.now c.loop-j.j c.loop-j.j 0 None
    c.requires (omega arith) (omega arith)

pub loop-j-preserved : goal.loop-j-preserved
unfolding each
loop-j-preserved c =
    let counts = columns-lengths (each candidate_flags) 0 (length c.args.used_by_curr_pic_flag.now) c.args.used_by_curr_pic_flag.now c.args.use_delta_flag.now c.requires in
    print_columns_step (each candidate_flags) 0 _ _ _ _ c.loop-j.j c.loop-j.j 0 None _ c.loop-j.invariant (omega arith) (omega arith) (omega arith) c.in_ok-outer.ensures
    c.in_ok-print_candidate_flags.ensures c.close.ensures
