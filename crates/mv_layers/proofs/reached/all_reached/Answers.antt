use Rattle.mv_layers.proofs.ReachLaws.{rows_more}
use Rattle.mv_layers.proofs.reached.all_reached.Goals as goal

pub loop-i-preserved : goal.loop-i-preserved
loop-i-preserved c =
    rows_more c.args.flags.now c.args.count c.loop-i.i c.loop-i.all.items c.deref.result.now c.push.new.self.items c.in_ok-reached.reached
    c.loop-i.invariant c.deref.ensures.value c.in_ok-reached.ensures c.in_ok-push.ensures.items
