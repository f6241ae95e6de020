-- How a run over a source answers, for any form of units and any visitor (this project's profile): when each answer
-- comes, and what it leaves.
use Rattle.std.specs.Prelude.{ℕ, ◌≡◌, ◌≤◌, Bool, true, false, List, [], ◌∷◌, ◌++◌, length, take, None, Some, IfSome, Result, Ok, Err, ⊤}
use Rattle.mv_io.specs.Call.{Input, InputRose, Took}
use Rattle.mv_units.specs.Shown.{StartsWith}
use Rattle.mv_units.specs.Units.{NalUnit}
use Rattle.mv_judging.specs.declared.stop.Stop.{Stop}
use Rattle.mv_judging.specs.Event.{Due, Accepts, Stops, Exceeds, due, event, seen}
use Rattle.mv_judging.specs.Format.{Format}
use Rattle.mv_judging.specs.Judge.{Judge, judged}
use Rattle.mv_engine.specs.declared.error.DriveError.{DriveError}
use Rattle.mv_engine.specs.declared.error.DriveError.TheVariants.{Stopped, Read, TooLong, Memory, Fault}
use Rattle.mv_engine.specs.Meaning.{Meaning}

-- the greatest number of bytes that one read asks for, 2^16 (this project's profile)
abbrev pub largest_piece : ℕ
largest_piece = 65536

-- no read came after the bytes taken showed a stop: those before the last piece show none, and the end was read
-- only where the whole of them shows none
pub record Prompt (f : Format) (j : Judge) (taken : List ℕ) (ended : Bool) : Type 0 where
  pub before : List ℕ
  pub piece : List ℕ
  pub parts : taken ≡ before ++ piece
  pub at_most : length piece ≤ largest_piece
  pub at_end : ended ≡ true → piece ≡ []
  pub quiet : seen f j false before ≡ None

-- Ok: the end was read within the limit, the bytes taken are accepted, and all their units and the end were taken
pub record Runs {V O F : Type 0} (f : Format) (m : Meaning V O F) (start new : V) (first out : O) (limit : ℕ) (input : Input) : Type 0 where
  pub taken : List ℕ
  pub took : Took input taken true
  pub within : length taken ≤ limit
  pub accepted : event f (m.judge start) taken ≡ None
  pub closed : m.closed start new first out (f.whole true taken)

-- stopped: the bytes taken show the stop, with no read after that, and the units before it were written
pub record Halts {V O F : Type 0} (f : Format) (m : Meaning V O F) (start : V) (first out : O) (limit : ℕ) (input : Input) (stop : Stop) : Type 0 where
  pub taken : List ℕ
  pub ended : Bool
  pub took : Took input taken ended
  pub within : length taken ≤ limit
  pub shown : seen f (m.judge start) ended taken ≡ Some stop
  pub prompt : Prompt f (m.judge start) taken ended
  pub units : stop.unit ≤ length (f.whole ended taken)
  pub wrote : m.wrote start first out (take stop.unit (f.whole ended taken))

-- read: the source's count of faults rose, the bytes taken show nothing, and the units taken whole were written
pub record ReadFails {V O F : Type 0} (f : Format) (m : Meaning V O F) (start : V) (first out : O) (limit : ℕ) (input : Input) : Type 0 where
  pub taken : List ℕ
  pub took : Took input taken false
  pub within : length taken ≤ limit
  pub rose : InputRose input
  pub quiet : seen f (m.judge start) false taken ≡ None
  pub wrote : m.wrote start first out (f.whole false taken)

-- TooLong: the source gave `limit` bytes, which show nothing, and another, and the units that the `limit` bytes
-- hold whole were written
pub record Exceeded {V O F : Type 0} (f : Format) (m : Meaning V O F) (start : V) (first out : O) (limit : ℕ) (input : Input) : Type 0 where
  pub taken : List ℕ
  pub extra : ℕ
  pub took : Took input (taken ++ extra ∷ []) false
  pub limit_reached : length taken ≡ limit
  pub quiet : seen f (m.judge start) false taken ≡ None
  pub wrote : m.wrote start first out (f.whole false taken)

-- memory: it has no cause that a contract knows; some of the units taken whole were written, all of them accepted
pub record Wants {V O F : Type 0} (f : Format) (m : Meaning V O F) (start : V) (first out : O) (limit : ℕ) (input : Input) : Type 0 where
  pub taken : List ℕ
  pub ended : Bool
  pub took : Took input taken ended
  pub within : length taken ≤ limit
  pub units : List NalUnit
  pub begin : StartsWith (f.whole ended taken) units
  pub accepted : judged (m.judge start) units ≡ None
  pub wrote : m.wrote start first out units

-- fault: the visitor couldn't go on, at a unit that was taken whole, or at the end behind all of them
pub record Fails {V O F : Type 0} (f : Format) (m : Meaning V O F) (start : V) (first out : O) (limit : ℕ) (input : Input) (fault : F) : Type 0 where
  pub taken : List ℕ
  pub ended : Bool
  pub took : Took input taken ended
  pub within : length taken ≤ limit
  pub units : List NalUnit
  pub begin : StartsWith (f.whole ended taken) units
  pub accepted : judged (m.judge start) units ≡ None
  pub at_end : Bool
  pub all : at_end ≡ true → (ended ≡ true) × (units ≡ f.whole true taken)
  pub failed : m.failed start first out at_end units fault

-- each answer with its cause and what it leaves
abbrev pub Driven : {V O F : Type 0} → Format → Meaning V O F → V → V → O → O → ℕ → Input → Result ⊤ (DriveError F) → Type 0
Driven f m start new first out limit input (Ok _) = Runs f m start new first out limit input
Driven f m start new first out limit input (Err (Stopped stop)) = Halts f m start first out limit input stop
Driven f m start new first out limit input (Err Read) = ReadFails f m start first out limit input
Driven f m start new first out limit input (Err TooLong) = Exceeded f m start first out limit input
Driven f m start new first out limit input (Err Memory) = Wants f m start first out limit input
Driven f m start new first out limit input (Err (Fault fault)) = Fails f m start first out limit input fault

-- an answer is the one that the bytes held decide, or want of memory, or a fault of the visitor
abbrev pub Decides : {F : Type 0} → Due → Result ⊤ (DriveError F) → Type 0
Decides what (Ok _) = what ≡ Accepts
Decides what (Err (Stopped stop)) = what ≡ Stops stop
Decides what (Err Read) = ⊥
Decides what (Err TooLong) = what ≡ Exceeds
Decides what (Err Memory) = ⊤
Decides what (Err (Fault fault)) = ⊤

-- where the source's count of faults didn't rise and it tells its bytes, they decide the answer
abbrev pub Settles : {F : Type 0} → Format → Judge → ℕ → Input → Result ⊤ (DriveError F) → Type 0
Settles f j limit input answer =
    ¬ InputRose input → IfSome input.old.told (λ was. Decides (due f j limit was.left) answer)
