use Rattle.std.proofs.Common.{◌≡◌, length, arith}
use Rattle.mv_syntax.proofs.LoopLaws.{items_after-length}
use Rattle.mv_syntax.proofs.PrintingLoops.{print_items_after_step}
use Rattle.mv_slice.specs.InterLayer.{active_layer, active_layer_numbers}
use Rattle.mv_slice.proofs.inter_layer.print_active_layers.Goals as goal

pub loop-i-preserved : goal.loop-i-preserved
unfolding active_layer_numbers
loop-i-preserved c =
    let count : length c.args.all.now ≡ c.args.n = items_after-length (active_layer c.args.ctx.now) 0 c.args.n c.args.all.now c.requires.valid in
    print_items_after_step (active_layer c.args.ctx.now) 0 _ _ _ c.loop-i.i c.loop-i.i 0 _ c.loop-i.invariant (omega arith) (omega arith) c.in_ok-outer.ensures
    c.in_ok-print_active_layer.ensures c.close.ensures
