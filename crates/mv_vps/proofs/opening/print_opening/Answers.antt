use Rattle.std.proofs.Common.{◌≡◌, refl, subst}
use Rattle.mv_syntax.specs.Printed.{printed}
use Rattle.mv_vps.specs.Opening.{VpsOpeningValue, opening}
use Rattle.mv_vps.proofs.opening.print_opening.Goals as goal

pub returns : goal.returns
unfolding opening
returns c =
    let P : VpsOpeningValue → Type 0 = λ v. c.print_profile_tier.new.out ≡ printed opening v c.args.out.now in
    subst P c.v.view_is (rw (c.in_ok-print_profile_tier.ensures, c.in_ok-u16.ensures, c.in_ok-flag-3.ensures, c.in_ok-u8-3.ensures, c.in_ok-u8-2.ensures, c.in_ok-flag-2.ensures, c.in_ok-flag.ensures, c.in_ok-u8.ensures) refl)
