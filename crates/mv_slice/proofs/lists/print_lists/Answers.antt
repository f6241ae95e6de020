use Rattle.std.proofs.Common.{◌≡◌, ap}
use Rattle.mv_slice.specs.Context.{SliceContextValue}
use Rattle.mv_slice.specs.Prediction.{lists}
use Rattle.mv_slice.proofs.lists.print_lists.Goals as goal

pub returns : goal.returns
unfolding lists
returns c =
    let chroma : c.ctx.inside.chroma ≡ c.args.ctx.now.chroma = ap (λ (ctx : SliceContextValue). ctx.chroma) c.ctx.view_is in
    rw (
      c.in_ok-print_pred_weight_table_if.ensures,
      c.in_ok-ue_if.ensures,
      c.in_ok-flag_if-3.ensures,
      c.in_ok-flag_if-2.ensures,
      c.in_ok-flag_if.ensures,
      c.in_ok-print_list_modification.ensures,
      c.in_ok-ue_within_if-2.ensures,
      c.in_ok-ue_within_if.ensures,
      c.in_ok-flag.ensures,
      chroma,
      c.active_entries_of-active.ensures.l0,
      c.active_entries_of-active.ensures.l1,
      c.is_modified-modified.ensures,
    )
    at c.ue.ensures
