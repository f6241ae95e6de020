use Rattle.std.proofs.Common.{◌+◌, refl, arith}
use Rattle.mv_syntax.specs.Loops.{each}
use Rattle.mv_syntax.proofs.PrintingLoops.{print_item_step, item_valid}
use Rattle.mv_vpsext.specs.Args.{layer_set, layer_sets}
use Rattle.mv_vps.proofs.layer_sets.print_layer_sets.Goals as goal

pub print_layer_set-requires : goal.print_layer_set-requires
unfolding layer_sets each
print_layer_set-requires c =
    item_valid (each (layer_set c.args.vps_max_layer_id)) 1 c.args.vps_num_layer_sets_minus1 c.args.all.now c.loop-k.k (1 + c.loop-k.k) _ _ c.requires.valid c.loop-k-test.true refl
    c.index-all-k.is

pub loop-k-preserved : goal.loop-k-preserved
unfolding layer_sets each
loop-k-preserved c =
    print_item_step (each (layer_set c.args.vps_max_layer_id)) 1 _ _ _ c.loop-k.k (c.loop-k.k + 1) _ _ _ c.loop-k.invariant c.loop-k-test.true (omega arith) c.index-all-k.is
    c.in_ok-outer.ensures c.in_ok-print_layer_set.ensures c.close.ensures
