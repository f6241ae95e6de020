use Rattle.std.proofs.Common.{◌≡◌, ◌+◌, ap, ◌∙◌, arith}
use Rattle.mv_syntax.proofs.PrintingLoops.{print_item_step}
use Rattle.mv_vpssets.specs.DpbSizes.{DpbLayers, dpb_sub_layer}
use Rattle.mv_vpssets.proofs.dpb_sizes.print_dpb_sub_layers.Goals as goal

pub loop-j-preserved : goal.loop-j-preserved
loop-j-preserved c =
    let necessary : c.deref.result.now ≡ c.args.set.now.necessary = c.deref.ensures.value ∙ ap (λ (s : DpbLayers). s.necessary) c.set.view_is in
    print_item_step (dpb_sub_layer c.args.set.now.necessary c.args.sub_layer_flag_info_present_flag) 0 (c.args.set.now.greatest + 1) _ _ c.loop-j.j c.loop-j.j _ _ _ c.loop-j.invariant c.loop-j-test.true (omega arith) c.index-all-j.is c.in_ok-outer.ensures
    (rw necessary at c.in_ok-print_dpb_sub_layer.ensures) c.close.ensures
