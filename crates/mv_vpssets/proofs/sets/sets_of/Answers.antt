use Rattle.mv_vpssets.proofs.SetSteps.{set_at_place}
use Rattle.mv_vpssets.proofs.sets.sets_of.Goals as goal

pub loop-k-preserved : goal.loop-k-preserved
loop-k-preserved c =
    set_at_place c.args.infos.now c.args.sets.now c.args.idc c.args.coded.now c.loop-k.k c.index-coded-k.result c.loop-k.all.items c.push.new.self.items c.in_ok-set.set
    c.loop-k-test.true c.index-coded-k.is c.loop-k.invariant c.in_ok-set.ensures c.in_ok-push.ensures.items
