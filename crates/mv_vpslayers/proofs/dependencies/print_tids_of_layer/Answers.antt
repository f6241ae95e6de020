use Rattle.std.proofs.Common.{◌+◌, ◌-◌, arith}
use Rattle.mv_syntax.proofs.PrintingLoops.{print_items_step}
use Rattle.mv_vpslayers.specs.Dependencies.{max_tid}
use Rattle.mv_vpslayers.proofs.dependencies.print_tids_of_layer.Goals as goal

pub loop-k-preserved : goal.loop-k-preserved
loop-k-preserved c =
    print_items_step (max_tid c.args.flags.now c.args.i) (c.args.i + 1) (c.args.vps_max_layers_minus1 - c.args.i) _ _ c.loop-k.k (c.args.i + 1 + c.loop-k.k) _ _ c.loop-k.invariant c.loop-k-test.true (omega arith) c.in_ok-outer.ensures
    c.in_ok-print_max_tid.ensures c.close.ensures
