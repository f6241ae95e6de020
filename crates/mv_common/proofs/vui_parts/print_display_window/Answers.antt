use Rattle.mv_common.specs.Vui.{display_window}
use Rattle.mv_common.proofs.vui_parts.print_display_window.Goals as goal

pub returns : goal.returns
unfolding display_window
returns c = rw (c.in_ok-ue_if-3.ensures, c.in_ok-ue_if-2.ensures, c.in_ok-ue_if.ensures, c.in_ok-flag.ensures) at c.ue_if-4.ensures
