use Rattle.std.proofs.Common.{◌≡◌, rules}
use Rattle.mv_walk_segment.proofs.AddedLaws.{serving-same}
use Rattle.mv_walk_segment.proofs.opened.OpenPicture.read.Goals as goal

pub read-requires-clause-serving : goal.read-requires-clause-serving
read-requires-clause-serving c =
    let tids : c.args.head.tid ≡ c.self.inside.head.tid = search rules in
    serving-same c.args.vps.now c.self.inside.head c.args.head c.self.inside.served (rw (← c.self.view_is) at c.requires.layer) tids (rw (← c.self.view_is) at c.requires.serving)

pub returns-then-head-self : goal.returns-then-head-self
returns-then-head-self c = rw (← c.self.view_is) c.read.ensures.answer
