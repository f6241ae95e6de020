use Rattle.std.proofs.Common.{◌≡◌, refl, subst}
use Rattle.mv_syntax.specs.Printed.{printed}
use Rattle.mv_common.specs.Vui.{vui_timing, VuiTimingValue}
use Rattle.mv_common.proofs.vui.print_vui_timing.Goals as goal

pub returns : goal.returns
unfolding vui_timing
returns c =
    let P : VuiTimingValue → Type 0 = λ v. c.print_hrd_if.new.out ≡ printed (vui_timing c.args.subs) v c.args.out.now in
    subst P c.v.view_is (rw (c.in_ok-print_hrd_if.ensures, c.in_ok-flag_if-2.ensures, c.in_ok-ue_if.ensures, c.in_ok-flag_if.ensures, c.in_ok-u32_if-2.ensures, c.in_ok-u32_if.ensures, c.in_ok-flag.ensures) refl)
