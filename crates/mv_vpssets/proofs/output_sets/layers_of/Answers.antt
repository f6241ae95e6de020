use Rattle.mv_vpssets.proofs.Bounds.{layers_few}
use Rattle.mv_vpssets.proofs.output_sets.layers_of.Goals as goal

pub returns-clause-few : goal.returns-clause-few
returns-clause-few c = layers_few c.args.sets.now c.in_ok-layers.layers.items c.args.i c.args.layer_set_idx_for_ols_minus1 c.requires c.in_ok-layers.ensures
