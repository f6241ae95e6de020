use Rattle.mv_walk_segment.proofs.AddedLaws.{known-same}
use Rattle.mv_walk_segment.proofs.opened.OpenPicture.read_anew.Goals as goal

pub read_by-requires-clause-layer : goal.read_by-requires-clause-layer
read_by-requires-clause-layer c = known-same c.args.vps.now c.args.self.now.head c.args.head c.args.self.now.served c.requires.layer c.requires.serving

pub returns-in-Ok : goal.returns-in-Ok
returns-in-Ok c = rw (← c.self.view_is, ← c.self-inside.view_is) c.read_by.ensures.answer
