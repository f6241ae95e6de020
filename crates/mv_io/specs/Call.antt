-- The ends of a call as its contract sees them, at the entry and at the exit.
use Rattle.std.specs.Prelude.{ℕ, ◌≡◌, Bool, true, false, List}
use Rattle.mv_io.specs.Faults.{Rose}
use Rattle.mv_io.specs.Sink.{SinkState}
use Rattle.mv_io.specs.Source.{SourceState, Takes, AtEnd, SameEnd}

-- a source over a call
pub record Input : Type 0 where
  pub old : SourceState
  pub new : SourceState

-- a sink over a call
pub record Output : Type 0 where
  pub old : SinkState
  pub new : SinkState

abbrev pub input_of : SourceState → SourceState → Input
input_of old new = record { old = old; new = new }

abbrev pub output_of : SinkState → SinkState → Output
output_of old new = record { old = old; new = new }

-- the source's count of faults rose in the call, and the sink's
abbrev pub InputRose : Input → Type 0
InputRose input = Rose input.old.faults input.new.faults

abbrev pub OutputRose : Output → Type 0
OutputRose output = Rose output.old.faults output.new.faults

-- the call took these bytes from the source and no others; `ended` says whether the end was read after them
pub record Took (input : Input) (taken : List ℕ) (ended : Bool) : Type 0 where
  pub takes : Takes input.old.told input.new.told taken
  pub at_end : ended ≡ true → AtEnd input.old.told input.new.told
  pub goes_on : ended ≡ false → SameEnd input.old.told input.new.told

-- neither end was used: nothing was read, nothing was written
pub record Untouched (input : Input) (output : Output) : Type 0 where
  pub source : input.new ≡ input.old
  pub sink : output.new ≡ output.old
