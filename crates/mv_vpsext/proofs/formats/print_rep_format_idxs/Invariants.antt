use Rattle.std.proofs.Common.{◌≡◌, take}
use Rattle.mv_syntax.specs.Printed.{printed}
use Rattle.mv_syntax.specs.Loops.{items}
use Rattle.mv_vpsext.specs.Formats.{rep_format_idx}
use Rattle.mv_vpsext.proofs.formats.print_rep_format_idxs.Given as goal

abbrev pub invariant-loop-k : goal.invariant-loop-k
invariant-loop-k l = l.out ≡ printed (items 1 l.vps_max_layers_minus1 (rep_format_idx l.vps_num_rep_formats_minus1)) (take l.k l.all) l.fn.out
