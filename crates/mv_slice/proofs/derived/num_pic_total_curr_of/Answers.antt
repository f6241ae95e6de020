use Rattle.std.proofs.Common.{◌≡◌, ◌≤◌, sym, ap, subst, ◌∙◌, arith}
use Rattle.std.specs.Option.{IfSome}
use Rattle.mv_syntax.specs.Table.{Valid}
use Rattle.mv_slice.specs.Picture.{SlicePictureValue, references}
use Rattle.mv_slice.specs.Layers.{num_active_ref_layer_pics}
use Rattle.mv_slice.specs.InterLayer.{SliceInterLayerValue}
use Rattle.mv_slice.proofs.Totals.{references_valid, active_few}
use Rattle.mv_slice.proofs.derived.num_pic_total_curr_of.Goals as goal

pub num_used_if-requires-clause-valid : goal.num_used_if-requires-clause-valid
num_used_if-requires-clause-valid c =
    subst (λ o. IfSome o (λ v. Valid (references c.args.ctx.now) v)) (sym (ap (λ (v : SlicePictureValue). v.references) c.of_picture.view_is))
    (references_valid c.args.ctx.now c.args.nal_unit_type c.args.of_picture.now c.requires.picture)

active : (c : goal.After-num_active-active) → c.num_active-active.result ≤ 62
active c =
    let few = active_few c.args.ctx.now c.args.of_layers.now c.requires.fits c.requires.layers in
    let same : c.num_active-active.result ≡ num_active_ref_layer_pics c.args.ctx.now c.args.of_layers.now.inter_layer_pred_enabled_flag c.args.of_layers.now.num_inter_layer_ref_pics_minus1
    = c.num_active-active.ensures
    ∙ ap (λ (v : SliceInterLayerValue). num_active_ref_layer_pics c.args.ctx.now v.inter_layer_pred_enabled_flag v.num_inter_layer_ref_pics_minus1) c.of_layers.view_is in
    omega (arith, few, same)

pub overflow_add-result : goal.overflow_add-result
overflow_add-result c = let few = active c in omega (arith, few, c.in_ok-used.ensures.few)

pub overflow_cast-result : goal.overflow_cast-result
overflow_cast-result c = let few = active c in omega (arith, few, c.in_ok-used.ensures.few)

pub returns-clause-few : goal.returns-clause-few
returns-clause-few c = let few = active c in omega (arith, few, c.in_ok-used.ensures.few)
