-- A sink over memory: what it has taken, and which of its writes fail.
use Rattle.std.specs.Prelude.{ℕ, ◌+◌, ◌<◌, Some, List, length, Contains, ◌⊎◌}
use Rattle.mv_io.specs.Sink.{SinkState}

-- a sink over memory, as its callers see it
pub record Store : Type 0 where
  -- the bytes that it has taken, the first one first
  pub bytes : List ℕ
  -- the most bytes that it takes in all
  pub capacity : ℕ
  -- the numbers of the writes that fail
  pub failing : List ℕ
  -- the next write's number, from 0
  pub number : ℕ
  -- how many writes failed
  pub faults : ℕ

-- it tells the bytes that it has taken, and counts the writes that failed
abbrev pub store_state : Store → SinkState
store_state store = record { taken = Some store.bytes; faults = store.faults }

-- the next write fails for a piece of this length: its number is in the list, or there is no room for
-- the whole piece
abbrev pub Refuses : Store → ℕ → Type 0
Refuses store len = Contains store.failing store.number ⊎ (store.capacity < length store.bytes + len)
