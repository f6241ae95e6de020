use Rattle.mv_common.specs.Vui.{bitstream_restriction}
use Rattle.mv_common.proofs.vui_parts.print_bitstream_restriction.Goals as goal

pub returns : goal.returns
unfolding bitstream_restriction
returns c = rw (c.in_ok-ue_if-4.ensures, c.in_ok-ue_if-3.ensures, c.in_ok-ue_if-2.ensures, c.in_ok-ue_if.ensures, c.in_ok-flag_if-3.ensures, c.in_ok-flag_if-2.ensures, c.in_ok-flag_if.ensures, c.in_ok-flag.ensures) at c.ue_if-5.ensures
