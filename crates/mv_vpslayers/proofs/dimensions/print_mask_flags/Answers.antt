use Rattle.std.proofs.Common.{arith}
use Rattle.mv_syntax.proofs.PrintingLoops.{print_items_step}
use Rattle.mv_vpslayers.specs.Dimensions.{mask_flag}
use Rattle.mv_vpslayers.proofs.dimensions.print_mask_flags.Goals as goal

pub loop-i-preserved : goal.loop-i-preserved
loop-i-preserved c =
    print_items_step (mask_flag c.args.vps_max_layers_minus1) 0 16 _ _ c.loop-i.i c.loop-i.i _ _ c.loop-i.invariant c.loop-i-test.true (omega arith) c.in_ok-outer.ensures
    c.in_ok-print_mask_flag.ensures c.close.ensures
