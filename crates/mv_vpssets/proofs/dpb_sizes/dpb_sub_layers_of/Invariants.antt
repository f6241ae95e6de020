use Rattle.std.proofs.Common.{◌≡◌}
use Rattle.mv_syntax.specs.inner.Reader.{read}
use Rattle.mv_syntax.specs.inner.Turns.{rest_of_items}
use Rattle.mv_vpssets.specs.DpbSizes.{dpb_sub_layer, dpb_sub_layers}
use Rattle.mv_vpssets.proofs.dpb_sizes.dpb_sub_layers_of.Given as goal

abbrev pub invariant-loop-j : goal.invariant-loop-j
invariant-loop-j l =
    (read (dpb_sub_layers l.set l.sub_layer_flag_info_present_flag) l.fn.bits.left
    ≡ rest_of_items (dpb_sub_layer l.set.necessary l.sub_layer_flag_info_present_flag) l.j l.end l.all.items l.bits.left)
    × (l.bits.total ≡ l.fn.bits.total)
