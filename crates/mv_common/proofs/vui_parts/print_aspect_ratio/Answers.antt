use Rattle.mv_common.specs.Vui.{aspect_ratio}
use Rattle.mv_common.proofs.vui_parts.print_aspect_ratio.Goals as goal

pub returns : goal.returns
unfolding aspect_ratio
returns c = rw (c.in_ok-u16_if.ensures, c.in_ok-u8_if.ensures, c.in_ok-flag.ensures) at c.u16_if-2.ensures
