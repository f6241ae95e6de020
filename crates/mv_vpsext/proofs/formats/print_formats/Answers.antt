use Rattle.std.proofs.Common.{◌≡◌, refl, subst}
use Rattle.mv_syntax.specs.Printed.{printed}
use Rattle.mv_vpsext.specs.Formats.{VpsFormatsValue, formats}
use Rattle.mv_vpsext.proofs.formats.print_formats.Goals as goal

pub returns : goal.returns
unfolding formats
returns c =
    let P : VpsFormatsValue → Type 0 = λ v. c.print_rep_format_idxs_if.new.out ≡ printed (formats c.args.vps_max_layers_minus1) v c.args.out.now in
    subst P c.v.view_is
    (rw (c.in_ok-print_rep_format_idxs_if.ensures, c.in_ok-flag_if.ensures, c.in_ok-print_rep_formats.ensures, c.in_ok-ue.ensures, c.coded_set-coded.ensures, c.deref.ensures.value) refl)
