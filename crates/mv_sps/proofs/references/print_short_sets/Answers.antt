use Rattle.std.proofs.Common.{◌≡◌, length, arith}
use Rattle.mv_syntax.proofs.LoopLaws.{items_after-length, items_after-valid}
use Rattle.mv_syntax.proofs.PrintingLoops.{print_items_after_step}
use Rattle.mv_sps.specs.References.{short_set, short_sets}
use Rattle.mv_sps.proofs.Sets.{taken_whole}
use Rattle.mv_sps.proofs.references.print_short_sets.Goals as goal

pub slice_bounds-print_short_set-end : goal.slice_bounds-print_short_set-end
slice_bounds-print_short_set-end c = taken_whole c.args.num c.args.sets.now c.loop-i.i c.from-k.result c.requires.valid c.loop-i-test.true c.from-k.ensures

pub loop-i-preserved : goal.loop-i-preserved
unfolding short_sets
loop-i-preserved c =
    let count : length c.args.sets.now ≡ c.args.num = items_after-length (short_set c.args.num) 0 c.args.num c.args.sets.now c.requires.valid in
    print_items_after_step (short_set c.args.num) 0 _ _ _ c.loop-i.i c.loop-i.i _ _ c.loop-i.invariant (omega arith) (omega arith)
    (rw c.from.ensures at c.in_ok-outer.ensures) (rw (c.index-sets-k.is, c.from-k.ensures) at c.in_ok-print_short_set.ensures) c.close.ensures
