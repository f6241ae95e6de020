use Rattle.std.proofs.Common.{◌≡◌, refl, subst}
use Rattle.mv_syntax.specs.Printed.{printed}
use Rattle.mv_vps.specs.Vps.{WholeVps, vps_fields}
use Rattle.mv_vps.proofs.vps.print_fields.Goals as goal

pub returns : goal.returns
unfolding vps_fields
returns c =
    let P : WholeVps → Type 0 = λ v. c.flag_if.new.self ≡ printed vps_fields v.coded.0 c.args.out.now in
    subst P c.v.view_is (rw (c.in_ok-flag_if.ensures, c.in_ok-print_extension.ensures, c.in_ok-print_aligned_base.ensures, c.has_extension2_flag-has_flag.ensures) refl)
