use Rattle.std.proofs.Common.{max, option_map, ap₂, sym, ◌∙◌}
use Rattle.std.proofs.lemmas.List.Sums.{fold_more}
use Rattle.mv_vpssets.specs.Sets.{sub_layers_of}
use Rattle.mv_vpssets.proofs.sets.greatest_sub_layers.Goals as goal

pub loop-layer-preserved : goal.loop-layer-preserved
loop-layer-preserved c =
    c.max-greatest.ensures ∙ ap₂ max c.loop-layer.invariant c.sub_layers_of-sub_layers.ensures
    ∙ sym (fold_more (λ so_far id. max so_far (sub_layers_of c.args.infos.now c.args.vps_max_sub_layers_minus1 (option_map (λ v. v.items) c.args.sub_layers_vps_max_minus1.now) id))
    0 c.args.layers.now c.loop-layer.layer-index 0 c.loop-layer-test.true)
