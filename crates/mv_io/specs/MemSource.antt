-- A source over memory: what it still gives, and which of its reads give how much or fail.
use Rattle.std.specs.Prelude.{ℕ, Bool, Option, Some, List, length, min, slice_get, unwrap_or, ◌==◌, if◌then◌else◌}
use Rattle.mv_io.specs.Source.{SourceState, Told}

-- a source over memory, as its callers see it
pub record Supply : Type 0 where
  -- the bytes that are left, the next one first
  pub left : List ℕ
  -- whether a read has answered 0
  pub ended : Bool
  -- the most bytes that each read gives, the first read's first
  pub pieces : List ℕ
  -- the numbers of the reads that fail
  pub failing : List ℕ
  -- the next read's number, from 0
  pub number : ℕ
  -- how many reads failed
  pub faults : ℕ

-- it tells the bytes that are left and whether the end was read
abbrev pub told_of : Supply → Option Told
told_of supply = Some (record { left = supply.left; ended = supply.ended })

-- and counts the reads that failed
abbrev pub supply_state : Supply → SourceState
supply_state supply = record { told = told_of supply; faults = supply.faults }

-- the most bytes that a read of this number gives into a buffer with that room: what the list of pieces
-- says, or as many as fit where it says 0 or the number is past it
abbrev pub piece_size : List ℕ → ℕ → ℕ → ℕ
piece_size pieces number room =
    let size = unwrap_or (slice_get pieces number) 0 in
    if size == 0 then room else min size room

-- how many bytes the next read gives, where it doesn't fail
abbrev pub supply_gives : Supply → ℕ → ℕ
supply_gives supply room = min (piece_size supply.pieces supply.number room) (length supply.left)
