use Rattle.std.proofs.Common.{◌≡◌, take}
use Rattle.mv_syntax.specs.Printed.{printed}
use Rattle.mv_syntax.specs.Loops.{items}
use Rattle.mv_vpsext.specs.Pictures.{poc_lsb_not_present}
use Rattle.mv_vpsext.proofs.pictures.print_poc_lsbs_not_present.Given as goal

abbrev pub invariant-loop-k : goal.invariant-loop-k
invariant-loop-k l = l.out ≡ printed (items 1 l.vps_max_layers_minus1 (poc_lsb_not_present l.flags)) (take l.k l.all) l.fn.out
