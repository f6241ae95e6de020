use Rattle.std.proofs.Common.{◌≡◌, ◌+◌, take}
use Rattle.mv_syntax.specs.Printed.{printed}
use Rattle.mv_syntax.specs.Loops.{items}
use Rattle.mv_vpssets.specs.DpbSizes.{dpb_sub_layer}
use Rattle.mv_vpssets.proofs.dpb_sizes.print_dpb_sub_layers.Given as goal

abbrev pub invariant-loop-j : goal.invariant-loop-j
invariant-loop-j l =
    l.out ≡ printed (items 0 (l.set.greatest + 1) (dpb_sub_layer l.set.necessary l.sub_layer_flag_info_present_flag)) (take l.j l.all) l.fn.out
