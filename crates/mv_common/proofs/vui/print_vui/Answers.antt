use Rattle.std.proofs.Common.{◌≡◌, refl, subst}
use Rattle.mv_syntax.specs.Printed.{printed}
use Rattle.mv_common.specs.Vui.{vui_parameters, VuiValue}
use Rattle.mv_common.proofs.vui.print_vui.Goals as goal

pub returns : goal.returns
unfolding vui_parameters
returns c =
    let P : VuiValue → Type 0 = λ v. c.print_bitstream_restriction.new.out ≡ printed (vui_parameters c.args.subs) v c.args.out.now in
    subst P c.v.view_is (rw (c.in_ok-print_bitstream_restriction.ensures, c.in_ok-print_vui_timing.ensures, c.in_ok-print_display_window.ensures, c.in_ok-flag-3.ensures, c.in_ok-flag-2.ensures, c.in_ok-flag.ensures, c.in_ok-print_chroma_location.ensures, c.in_ok-print_video_signal_type.ensures, c.in_ok-print_overscan.ensures, c.in_ok-print_aspect_ratio.ensures) refl)
