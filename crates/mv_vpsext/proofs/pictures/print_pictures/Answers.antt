use Rattle.std.proofs.Common.{◌≡◌, refl, subst}
use Rattle.mv_syntax.specs.Printed.{printed}
use Rattle.mv_vpsext.specs.Pictures.{VpsPicturesValue, pictures}
use Rattle.mv_vpsext.proofs.pictures.print_pictures.Goals as goal

pub returns : goal.returns
unfolding pictures
returns c =
    let P : VpsPicturesValue → Type 0 = λ v. c.print_poc_lsbs_not_present.new.out ≡ printed (pictures c.args.vps_max_layers_minus1 c.args.flags.now) v c.args.out.now in
    subst P c.v.view_is
    (rw (c.in_ok-print_poc_lsbs_not_present.ensures, c.in_ok-flag-2.ensures, c.in_ok-flag.ensures, c.deref.ensures.value) refl)
