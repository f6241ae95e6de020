use Rattle.mv_common.specs.Vui.{video_signal_type}
use Rattle.mv_common.proofs.vui_parts.print_video_signal_type.Goals as goal

pub returns : goal.returns
unfolding video_signal_type
returns c = rw (c.in_ok-u8_if-3.ensures, c.in_ok-u8_if-2.ensures, c.in_ok-flag_if-2.ensures, c.in_ok-flag_if.ensures, c.in_ok-u8_if.ensures, c.in_ok-flag.ensures) at c.u8_if-4.ensures
