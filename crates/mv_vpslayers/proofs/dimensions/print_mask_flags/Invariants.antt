use Rattle.std.proofs.Common.{◌≡◌, take}
use Rattle.mv_syntax.specs.Printed.{printed}
use Rattle.mv_syntax.specs.Loops.{items}
use Rattle.mv_vpslayers.specs.Dimensions.{mask_flag}
use Rattle.mv_vpslayers.proofs.dimensions.print_mask_flags.Given as goal

abbrev pub invariant-loop-i : goal.invariant-loop-i
invariant-loop-i l = l.out ≡ printed (items 0 16 (mask_flag l.vps_max_layers_minus1)) (take l.i l.all) l.fn.out
