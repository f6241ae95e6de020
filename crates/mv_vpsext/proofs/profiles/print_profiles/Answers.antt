use Rattle.std.proofs.Common.{◌≡◌, refl, subst}
use Rattle.mv_syntax.specs.Printed.{printed}
use Rattle.mv_vpsext.specs.Profiles.{VpsProfilesValue, profiles}
use Rattle.mv_vpsext.proofs.profiles.print_profiles.Goals as goal

pub returns : goal.returns
unfolding profiles
returns c =
    let P : VpsProfilesValue → Type 0 = λ v. c.print_vps_profiles.new.out ≡ printed (profiles c.args.vps_max_sub_layers_minus1) v c.args.out.now in
    subst P c.v.view_is
    (rw (c.in_ok-print_vps_profiles.ensures, c.in_ok-ue.ensures, c.deref.ensures.value) refl)
