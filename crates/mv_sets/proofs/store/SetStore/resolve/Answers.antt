use Rattle.mv_sets.proofs.StoreLaws.{gives}
use Rattle.mv_sets.proofs.store.SetStore.resolve.Goals as goal

pub returns : goal.returns
returns c = λ past p stands asked. gives c.args.self.now past stands c.args.vps.now c.args.layer c.args.pps_id p asked c.answer.result c.answer.ensures
