use Rattle.std.proofs.Common.{◌≡◌, refl, subst}
use Rattle.mv_syntax.specs.Printed.{printed}
use Rattle.mv_vps.specs.Timing.{VpsHrdValue, vps_hrd}
use Rattle.mv_vps.proofs.hrds.print_vps_hrd.Goals as goal

pub returns : goal.returns
unfolding vps_hrd
returns c =
    let P : VpsHrdValue → Type 0 = λ v. c.print_hrd.new.out ≡ printed (vps_hrd c.args.subs c.args.before c.args.i) v c.args.out.now in
    subst P c.v.view_is (rw (c.in_ok-print_hrd.ensures, c.in_ok-flag_if.ensures, c.in_ok-ue.ensures, c.has_common-common.ensures) refl)
