use Rattle.std.proofs.Common.{◌≡◌, refl, subst}
use Rattle.mv_syntax.specs.Printed.{printed}
use Rattle.mv_vpslayers.specs.Dimensions.{VpsDimensionsValue, dimensions}
use Rattle.mv_vpslayers.proofs.dimensions.print_dimensions.Goals as goal

pub returns : goal.returns
unfolding dimensions
returns c =
    let P : VpsDimensionsValue → Type 0 = λ v. c.print_view_id_vals_if.new.out ≡ printed (dimensions c.args.vps_max_layers_minus1 c.args.vps_max_sub_layers_minus1) v c.args.out.now in
    subst P c.v.view_is
    (rw (c.in_ok-print_view_id_vals_if.ensures, c.in_ok-u8.ensures, c.in_ok-print_vps_layers.ensures, c.in_ok-flag-2.ensures, c.in_ok-u8_if.ensures, c.in_ok-print_mask_flags.ensures, c.in_ok-flag.ensures, c.in_ok-print_profile_tier_if.ensures, c.id_width-width.ensures, c.has_views-views.ensures, c.deref.ensures.value, c.deref-2.ensures.value, c.deref-3.ensures.value) refl)
