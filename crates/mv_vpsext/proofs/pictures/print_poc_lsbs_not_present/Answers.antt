use Rattle.std.proofs.Common.{◌+◌, arith}
use Rattle.mv_syntax.proofs.PrintingLoops.{print_items_step}
use Rattle.mv_vpsext.specs.Pictures.{poc_lsb_not_present}
use Rattle.mv_vpsext.proofs.pictures.print_poc_lsbs_not_present.Goals as goal

pub loop-k-preserved : goal.loop-k-preserved
loop-k-preserved c =
    print_items_step (poc_lsb_not_present c.args.flags.now) 1 c.args.vps_max_layers_minus1 _ _ c.loop-k.k (c.loop-k.k + 1) _ _ c.loop-k.invariant c.loop-k-test.true (omega arith) c.in_ok-outer.ensures
    c.in_ok-print_poc_lsb_not_present.ensures c.close.ensures
