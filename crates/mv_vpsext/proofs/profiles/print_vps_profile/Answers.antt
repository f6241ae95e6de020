use Rattle.std.proofs.Common.{◌≡◌, refl, subst}
use Rattle.mv_syntax.specs.Printed.{printed}
use Rattle.mv_vpsext.specs.Profiles.{VpsProfileValue, vps_profile}
use Rattle.mv_vpsext.proofs.profiles.print_vps_profile.Goals as goal

pub returns : goal.returns
unfolding vps_profile
returns c =
    let P : VpsProfileValue → Type 0 = λ v. c.print_profile_tier.new.out ≡ printed (vps_profile c.args.vps_max_sub_layers_minus1 c.args.i) v c.args.out.now in
    subst P c.v.view_is
    (rw (c.in_ok-print_profile_tier.ensures, c.in_ok-flag.ensures) refl)
