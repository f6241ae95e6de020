use Rattle.std.proofs.Common.{rules, ◌≡◌}
use Rattle.std.specs.Prelude.{option_map}
use Rattle.mv_dpb.specs.Waiting.{with_picture}
use Rattle.mv_walk_order.proofs.QueueLaws.{pushed}
use Rattle.mv_walk_order.proofs.queue.OutputQueue.push.Goals as goal

pub returns-clause-in_order : goal.returns-clause-in_order
returns-clause-in_order g c =
    let added : c.match-self.self-inside.waiting ≡ option_map (with_picture c.args.shown c.args.au c.args.pic.value) c.args.self.now = search rules in
    pushed c.args.shown c.args.au c.args.pic.value c.args.self.now c.match-self.self-inside.waiting c.requires added
