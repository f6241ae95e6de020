use Rattle.std.proofs.Common.{◌+◌, length, arith}
use Rattle.mv_syntax.proofs.PrintingLoops.{print_item_step}
use Rattle.mv_vpssets.specs.OutputSets.{output_layer_set}
use Rattle.mv_vpssets.proofs.output_sets.print_output_layer_sets.Goals as goal

pub loop-k-preserved : goal.loop-k-preserved
loop-k-preserved c =
    print_item_step (output_layer_set c.args.infos.now c.args.sets.now c.args.vps_num_profile_tier_level_minus1 c.args.idc) 1 (length c.args.sets.now + c.args.num_add_olss) _ _ c.loop-k.k (c.loop-k.k + 1) _ _ _ c.loop-k.invariant c.loop-k-test.true (omega arith) c.index-all-k.is c.in_ok-outer.ensures
    c.in_ok-print_output_layer_set.ensures c.close.ensures
