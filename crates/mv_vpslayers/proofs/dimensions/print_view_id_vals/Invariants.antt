use Rattle.std.proofs.Common.{◌≡◌, ◌+◌, take, codes}
use Rattle.mv_syntax.specs.Printed.{printed_in}
use Rattle.mv_syntax.specs.Loops.{us}
use Rattle.mv_vpslayers.proofs.dimensions.print_view_id_vals.Given as goal

abbrev pub invariant-loop-i : goal.invariant-loop-i
invariant-loop-i l = l.out ≡ printed_in (us 0 (l.vps_max_layers_minus1 + 1) l.view_id_len) (codes "view_id_val") (take l.i l.all) l.fn.out
