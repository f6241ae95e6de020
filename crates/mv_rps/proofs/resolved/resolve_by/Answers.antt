use Rattle.std.proofs.Common.{◌∙◌}
use Rattle.mv_rps.proofs.KeepSteps.{few_kept}
use Rattle.mv_rps.proofs.resolved.resolve_by.Goals as goal

pub part_of-requires : goal.part_of-requires
part_of-requires c = few_kept c.as_slice.result.now c.args.longs.now c.args.held.now _ (c.deref.ensures.value ∙ c.in_ok-keep.ensures)

pub part_of-requires-2 : goal.part_of-requires-2
part_of-requires-2 c = few_kept c.as_slice.result.now c.args.longs.now c.args.held.now _ (c.deref-2.ensures.value ∙ c.in_ok-keep.ensures)

pub part_of-requires-3 : goal.part_of-requires-3
part_of-requires-3 c = few_kept c.as_slice.result.now c.args.longs.now c.args.held.now _ (c.deref-3.ensures.value ∙ c.in_ok-keep.ensures)
