use Rattle.std.proofs.Common.{◌≡◌, ◌+◌, take}
use Rattle.mv_syntax.specs.Printed.{printed}
use Rattle.mv_syntax.specs.Loops.{items}
use Rattle.mv_vpsext.specs.Formats.{rep_format}
use Rattle.mv_vpsext.proofs.formats.print_rep_formats.Given as goal

abbrev pub invariant-loop-i : goal.invariant-loop-i
invariant-loop-i l = l.out ≡ printed (items 0 (l.vps_num_rep_formats_minus1 + 1) rep_format) (take l.i l.all) l.fn.out
