use Rattle.std.proofs.Common.{◌+◌, length, refl, ap, ◌∙◌, arith}
use Rattle.mv_syntax.proofs.LoopLaws.{item_steps}
use Rattle.mv_vpssets.specs.OutputSets.{output_layer_sets}
use Rattle.mv_vpssets.proofs.SetSteps.{first_sets, set_behind, one_more}
use Rattle.mv_vpssets.proofs.output_sets.output_layer_sets_of.Goals as goal

pub loop-i-init : goal.loop-i-init
unfolding output_layer_sets
loop-i-init c = record {
  reads = grind (arith, item_steps);
  total = refl;
  layers = first_sets c.args.infos.now c.args.sets.now c.args.idc c.in_ok-layers.layers.items c.new-all.result.items c.in_ok-layers.ensures c.new-all.ensures.items;
  count = ap (λ l. 1 + length l) c.new-all.ensures.items;
}

pub loop-i-preserved : goal.loop-i-preserved
unfolding output_layer_sets
loop-i-preserved c = record {
  reads = grind (arith, item_steps);
  total = c.in_ok-coded.ensures.reads.1 ∙ c.loop-i.invariant.total;
  layers = set_behind c.args.infos.now c.args.sets.now c.args.idc c.loop-i.all.items c.push.new.self.items c.in_ok-coded.coded c.loop-i.i c.loop-i.layers.items c.push-in-loop-i.new.self.items c.in_ok-coded.set
      c.loop-i.invariant.count c.in_ok-push.ensures.items c.loop-i.invariant.layers c.in_ok-coded.ensures.layers c.in_ok-push-2.ensures.items;
  count = one_more c.loop-i.all.items c.push.new.self.items c.in_ok-coded.coded c.loop-i.i c.in_ok-push.ensures.items c.loop-i.invariant.count;
}
