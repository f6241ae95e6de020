use Rattle.std.proofs.Common.{◌≡◌, ◌+◌, length, [], ◌∷◌, ◌++◌, arith, length-append, ap, subst, ◌∙◌}
use Rattle.mv_syntax.specs.Table.{Valid}
use Rattle.mv_short_sets.specs.Deltas.{deltas_of_each}
use Rattle.mv_short_sets.specs.ShortSet.{st_ref_pic_set}
use Rattle.mv_short_sets.proofs.SetLaws.{sets_push}
use Rattle.mv_slice_tests.proofs.tests.sets_of.Goals as goal

-- a set that was read is one more valid set
pub loop-idx-preserved : goal.loop-idx-preserved
loop-idx-preserved c = (
  sets_push c.args.count c.loop-idx.idx c.loop-idx.sets.items _ c.in_ok-set.set c.loop-idx.invariant.0 c.loop-idx.invariant.1 c.in_ok-push.ensures.items
      (subst (λ l. Valid (st_ref_pic_set c.loop-idx.idx c.args.count (deltas_of_each l)) c.in_ok-set.set) c.as_slice.ensures.value c.in_ok-set.ensures.0.valid),
  ap length c.in_ok-push.ensures.items ∙ length-append c.loop-idx.sets.items (c.in_ok-set.set ∷ []) ∙ omega (arith, c.loop-idx.invariant.1),
)
