use Rattle.std.proofs.Common.{ℕ, ◌≤◌, ◌-◌, length, take, List}
use Rattle.mv_io.specs.Sink.{Appends, SinkState}
use Rattle.mv_io.proofs.sink.write_all.Given as goal

-- the first `written` bytes were appended so far, and the count didn't fall
pub record Written (old new : SinkState) (bytes : List ℕ) (written : ℕ) : Type 0 where
  pub within : written ≤ length bytes
  pub appended : Appends old.taken new.taken (take written bytes)
  pub never_falls : old.faults ≤ new.faults

abbrev pub invariant-loop-written : goal.invariant-loop-written
invariant-loop-written g l =
    Written (g.K.Sink.state l.initial.sink) (g.K.Sink.state l.sink) l.bytes l.written

abbrev pub decreases-loop-written : goal.decreases-loop-written
decreases-loop-written g l = length l.bytes - l.written
