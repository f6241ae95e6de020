use Rattle.std.proofs.Common.{◌+◌, arith}
use Rattle.mv_syntax.specs.Table.{u}
use Rattle.mv_syntax.specs.Loops.{each}
use Rattle.mv_syntax.proofs.LoopLaws.{items-valid}
use Rattle.mv_syntax.proofs.PrintingLoops.{print_items_step}
use Rattle.mv_vpslayers.specs.Dimensions.{view_id_vals}
use Rattle.mv_vpslayers.proofs.dimensions.print_view_id_vals.Goals as goal

pub u16-requires-clause-fits : goal.u16-requires-clause-fits
unfolding view_id_vals each
u16-requires-clause-fits c =
    items-valid (each (u c.args.view_id_len)) 0 (c.args.vps_max_layers_minus1 + 1) c.args.all.now c.loop-i.i c.loop-i.i 0 c.requires.valid c.loop-i-test.true (omega arith)

pub loop-i-preserved : goal.loop-i-preserved
unfolding each
loop-i-preserved c =
    print_items_step (each (u c.args.view_id_len)) 0 (c.args.vps_max_layers_minus1 + 1) _ _ c.loop-i.i c.loop-i.i _ _ c.loop-i.invariant c.loop-i-test.true (omega arith) c.in_ok-outer.ensures
    c.in_ok-u16.ensures c.close.ensures
