use Rattle.std.proofs.Common.{◌+◌, arith}
use Rattle.mv_syntax.proofs.PrintingLoops.{print_items_step}
use Rattle.mv_common.specs.Hrd.{cpb}
use Rattle.mv_common.proofs.cpb.print_sub_layer_hrd.Goals as goal

pub loop-k-preserved : goal.loop-k-preserved
loop-k-preserved c =
    print_items_step (cpb c.args.sub_pic) 0 (c.args.cpb_cnt_minus1 + 1) _ _ c.loop-k.k c.loop-k.k _ _ c.loop-k.invariant c.loop-k-test.true (omega arith) c.in_ok-outer.ensures
    c.in_ok-print_cpb.ensures c.close.ensures
