use Rattle.std.proofs.Common.{arith}
use Rattle.mv_syntax.specs.Loops.{each}
use Rattle.mv_syntax.proofs.LoopLaws.{columns-lengths, columns-valid}
use Rattle.mv_syntax.proofs.PrintingLoops.{print_columns_step}
use Rattle.mv_sps.specs.References.{candidate, candidates}
use Rattle.mv_sps.proofs.references.print_candidates.Goals as goal

pub print_candidate-requires-clause-valid : goal.print_candidate-requires-clause-valid
unfolding candidates each
print_candidate-requires-clause-valid c =
    let counts = columns-lengths (each (candidate c.args.lsb_bits)) 0 c.args.n c.args.lsbs.now c.args.used.now c.requires.valid in
    columns-valid (each (candidate c.args.lsb_bits)) 0 c.args.n c.args.lsbs.now c.args.used.now c.loop-i.i c.loop-i.i 0 0 c.requires.valid (omega arith)
    (omega arith)

pub loop-i-preserved : goal.loop-i-preserved
unfolding candidates each
loop-i-preserved c =
    let counts = columns-lengths (each (candidate c.args.lsb_bits)) 0 c.args.n c.args.lsbs.now c.args.used.now c.requires.valid in
    print_columns_step (each (candidate c.args.lsb_bits)) 0 _ _ _ _ c.loop-i.i c.loop-i.i 0 0 _ c.loop-i.invariant (omega arith) (omega arith) (omega arith)
    c.in_ok-outer.ensures c.in_ok-print_candidate.ensures c.close.ensures
