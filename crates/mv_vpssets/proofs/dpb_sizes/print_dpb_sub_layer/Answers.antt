use Rattle.std.proofs.Common.{◌≡◌, refl, subst}
use Rattle.mv_syntax.specs.Printed.{printed}
use Rattle.mv_vpssets.specs.DpbSizes.{DpbSubLayerValue, dpb_sub_layer}
use Rattle.mv_vpssets.proofs.dpb_sizes.print_dpb_sub_layer.Goals as goal

pub returns : goal.returns
unfolding dpb_sub_layer
returns c =
    let P : DpbSubLayerValue → Type 0 = λ v. c.print_dpb_numbers_if.new.out ≡ printed (dpb_sub_layer c.args.necessary.now c.args.sub_layer_flag_info_present_flag c.args.j) v c.args.out.now in
    subst P c.v.view_is (rw (c.in_ok-print_dpb_numbers_if.ensures, c.in_ok-flag_if.ensures) refl)
