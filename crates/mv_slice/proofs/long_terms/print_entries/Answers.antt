use Rattle.std.proofs.Common.{◌≡◌, length, arith}
use Rattle.mv_syntax.proofs.LoopLaws.{items-length}
use Rattle.mv_syntax.proofs.PrintingLoops.{print_items_step}
use Rattle.mv_slice.specs.LongTerms.{long_term, entries}
use Rattle.mv_slice.proofs.long_terms.print_entries.Goals as goal

pub loop-i-preserved : goal.loop-i-preserved
unfolding entries
loop-i-preserved c =
    let count : length c.args.all.now ≡ c.args.n = items-length (long_term c.args.ctx.now c.args.num_long_term_sps) 0 c.args.n c.args.all.now c.requires.valid in
    print_items_step (long_term c.args.ctx.now c.args.num_long_term_sps) 0 _ _ _ c.loop-i.i c.loop-i.i _ _ c.loop-i.invariant (omega arith) (omega arith) c.in_ok-outer.ensures
    c.in_ok-print_long_term.ensures c.close.ensures
