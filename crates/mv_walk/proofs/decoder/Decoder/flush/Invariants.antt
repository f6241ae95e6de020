use Rattle.std.proofs.Common.{◌≤◌, length}
use Rattle.mv_walk_order.specs.Queue.{pictures_in}
use Rattle.mv_walk.specs.Decoders.{IsButQueue}
use Rattle.mv_walk.proofs.decoder.Decoder.flush.Given as goal

-- all is as it was but the queue, and the viewer's faults didn't fall
abbrev pub invariant-loop-shown : goal.invariant-loop-shown
invariant-loop-shown g l = IsButQueue l.initial.self l.self × (g.V.Viewer.viewing.faults l.initial.viewer ≤ g.V.Viewer.viewing.faults l.viewer)

abbrev pub decreases-loop-shown : goal.decreases-loop-shown
decreases-loop-shown g l = length (pictures_in l.self.queue)
