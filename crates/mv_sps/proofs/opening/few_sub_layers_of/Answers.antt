use Rattle.mv_sps.proofs.Subs.{few_read}
use Rattle.mv_sps.proofs.opening.few_sub_layers_of.Goals as goal

pub returns-clause-few : goal.returns-clause-few
returns-clause-few c = few_read c.args.layer c.args.vps_sub_layers _ _ _ c.requires c.max_sub_layers_minus1_of.ensures
