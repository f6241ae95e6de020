use Rattle.std.proofs.Common.{◌≡◌, refl, subst}
use Rattle.mv_syntax.specs.Printed.{printed}
use Rattle.mv_vpsext.specs.VpsExt.{VpsExtValue, vps_extension}
use Rattle.mv_vpsext.proofs.vps_ext.VpsExt.print.Goals as goal

pub returns : goal.returns
unfolding vps_extension
returns c =
    let P : VpsExtValue → Type 0 = λ v. c.print_ending.new.out ≡ printed (vps_extension c.args.args.now) v c.args.out.now in
    subst P c.self.view_is
    (rw (c.in_ok-print_ending.ensures, c.in_ok-print_types_in.ensures, c.in_ok-print_dpb_size_in.ensures, c.in_ok-print_pictures_in.ensures, c.in_ok-print_formats_in.ensures, c.in_ok-print_output_sets_in.ensures, c.in_ok-print_profiles_in.ensures, c.in_ok-print_dependencies_in.ensures, c.in_ok-print_dimensions_in.ensures, c.deref-3.ensures.value, c.deref-5.ensures.value, c.deref-6.ensures.value, c.in_ok-sets.ensures, c.deref.ensures.value, c.in_ok-infos.ensures, c.deref-4.ensures.value) refl)
