use Rattle.std.proofs.Common.{◌≤◌, length}
use Rattle.mv_io.specs.Buffered.{HandsOn}
use Rattle.mv_io.proofs.buffered.drain.Given as goal

abbrev pub invariant-loop-below : goal.invariant-loop-below
invariant-loop-below g l = record {
  hands_on : HandsOn (g.K.Sink.state l.initial.below) (g.K.Sink.state l.below) l.initial.buffer.waiting l.buffer.waiting;
  never_falls : (g.K.Sink.state l.initial.below).faults ≤ (g.K.Sink.state l.below).faults;
}

abbrev pub decreases-loop-below : goal.decreases-loop-below
decreases-loop-below g l = length l.buffer.waiting
