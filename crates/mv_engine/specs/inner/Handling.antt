-- How the units of a string are handed out one by one, as they are found: each is tried, and written.
use Rattle.std.specs.Prelude.{ℕ, ◌≡◌, ◌<◌, ◌≤◌, ◌+◌, ◌^◌, Bool, true, false, List, [], ◌∷◌, ◌++◌, length, take, None, Some, Result, Ok, Err, ⊤}
use Rattle.mv_units.specs.Shown.{StartsWith}
use Rattle.mv_units.specs.Units.{NalUnit}
use Rattle.mv_judging.specs.declared.stop.Stop.{Stop}
use Rattle.mv_judging.specs.Event.{event, seen}
use Rattle.mv_judging.specs.Format.{Format}
use Rattle.mv_judging.specs.Judge.{Judge, judged}
use Rattle.mv_engine.specs.declared.error.DriveError.{DriveError}
use Rattle.mv_engine.specs.declared.error.DriveError.TheVariants.{Stopped, Read, TooLong, Memory, Fault}
use Rattle.mv_engine.specs.Meaning.{Meaning, FailsAt}
use Rattle.mv_engine.specs.Reader.{Reading, StandsIn}

-- what holds of a list of bytes, or of units
abbrev pub OfBytes : Type 1
OfBytes = List ℕ → Type 0

abbrev pub OfUnits : Type 1
OfUnits = List NalUnit → Type 0

-- a reader stands for the bytes `s`, and all units that it has handed out, which are as many as `number` says,
-- were accepted and written
pub record Handled (f : Format) (j : Judge) (Holds : OfBytes) (Stands Wrote : OfUnits) (reading : Reading) (number : ℕ) (s : List ℕ) : Type 0 where
  pub holds : Holds s
  pub means : StandsIn f reading s
  pub counted : number ≡ reading.given
  pub accepted : judged j (take reading.given (f.whole reading.ended s)) ≡ None
  pub stands : Stands (take reading.given (f.whole reading.ended s))
  pub wrote : Wrote (take reading.given (f.whole reading.ended s))

-- the same where no unit waits to be handed out, and the input may go on
pub record Idle (f : Format) (j : Judge) (Holds : OfBytes) (Stands Wrote : OfUnits) (reading : Reading) (number : ℕ) (s : List ℕ) : Type 0 where
  pub handled : Handled f j Holds Stands Wrote reading number s
  pub nothing_waits : reading.waiting ≡ None
  pub goes_on : reading.ended ≡ false

-- both in the words of a visitor's meaning
abbrev pub HandledBy : {V O F : Type 0} → Format → Meaning V O F → V → O → OfBytes → V → O → Reading → ℕ → List ℕ → Type 0
HandledBy f m start first Holds now out reading number s = Handled f (m.judge start) Holds (m.stands start now) (m.wrote start first out) reading number s

abbrev pub IdleBy : {V O F : Type 0} → Format → Meaning V O F → V → O → OfBytes → V → O → Reading → ℕ → List ℕ → Type 0
IdleBy f m start first Holds now out reading number s = Idle f (m.judge start) Holds (m.stands start now) (m.wrote start first out) reading number s

-- a unit may be handed out: the reader stands for some bytes, fewer than 2^64
pub record CanHandle {V O F : Type 0} (f : Format) (m : Meaning V O F) (Holds : OfBytes) (now : V) (out : O) (reading : Reading) (number : ℕ) : Type 0 where
  pub start : V
  pub first : O
  pub bytes : List ℕ
  pub opens : m.opens start
  pub handled : HandledBy f m start first Holds now out reading number bytes
  pub countable : length bytes < 2 ^ 64

-- so many bytes may be fed: the reader stands for some bytes, no unit waits, and with those to be fed there are
-- fewer than 2^64
pub record CanFeed {V O F : Type 0} (f : Format) (m : Meaning V O F) (Holds : OfBytes) (now : V) (out : O) (reading : Reading) (number most : ℕ) : Type 0 where
  pub start : V
  pub first : O
  pub bytes : List ℕ
  pub opens : m.opens start
  pub idle : IdleBy f m start first Holds now out reading number bytes
  pub countable : length bytes + most < 2 ^ 64

-- each answer for one unit behind others, whose number is given
abbrev pub VisitsOne : {V O F : Type 0} → Meaning V O F → V → O → V → O → ℕ → List NalUnit → NalUnit → Result ⊤ (DriveError F) → Type 0
VisitsOne m start first new out number us u (Ok _) =
    ((m.judge start).late us u ≡ None) × m.stands start new (us ++ u ∷ []) × m.wrote start first out (us ++ u ∷ [])
VisitsOne m start first new out number us u (Err (Stopped stop)) =
    (stop.unit ≡ number) × (stop.byte ≡ u.place) × ((m.judge start).late us u ≡ Some stop.why) × m.wrote start first out us
VisitsOne m start first new out number us u (Err Read) = ⊥
VisitsOne m start first new out number us u (Err TooLong) = ⊥
VisitsOne m start first new out number us u (Err Memory) = ⊥
VisitsOne m start first new out number us u (Err (Fault fault)) = FailsAt m start first out us u fault

-- a stop that the bytes taken show, and the units before it were written
pub record LeavesStopped (f : Format) (j : Judge) (Wrote : OfUnits) (ended : Bool) (taken : List ℕ) (stop : Stop) : Type 0 where
  pub shows : seen f j ended taken ≡ Some stop
  pub within : stop.unit ≤ length (f.whole ended taken)
  pub wrote : Wrote (take stop.unit (f.whole ended taken))

-- some of the units taken whole were accepted and written
pub record LeavesSome (f : Format) (j : Judge) (Wrote : OfUnits) (ended : Bool) (taken : List ℕ) : Type 0 where
  pub units : List NalUnit
  pub begin : StartsWith (f.whole ended taken) units
  pub accepted : judged j units ≡ None
  pub wrote : Wrote units

-- the visitor couldn't go on behind some of them
pub record LeavesFailed (f : Format) (j : Judge) (Failed : Bool → OfUnits) (ended : Bool) (taken : List ℕ) : Type 0 where
  pub units : List NalUnit
  pub begin : StartsWith (f.whole ended taken) units
  pub accepted : judged j units ≡ None
  pub at_end : Bool
  pub all : at_end ≡ true → (ended ≡ true) × (units ≡ f.whole true taken)
  pub failed : Failed at_end units

-- what an answer other than Ok leaves behind the bytes `taken`; `ended` says whether they are all
abbrev pub Leaves : {V O F : Type 0} → Format → Meaning V O F → V → O → O → Bool → List ℕ → DriveError F → Type 0
Leaves f m start first out ended taken (Stopped stop) = LeavesStopped f (m.judge start) (m.wrote start first out) ended taken stop
Leaves f m start first out ended taken Read = ⊥
Leaves f m start first out ended taken TooLong = ⊥
Leaves f m start first out ended taken Memory = LeavesSome f (m.judge start) (m.wrote start first out) ended taken
Leaves f m start first out ended taken (Fault fault) = LeavesFailed f (m.judge start) (λ at us. m.failed start first out at us fault) ended taken

-- each answer once the unit that waits, if one does, was handed out
abbrev pub HandlesUnit : {V O F : Type 0} → Format → Meaning V O F → V → O → OfBytes → V → O → Reading → Reading → ℕ → List ℕ → Result ⊤ (DriveError F) → Type 0
HandlesUnit f m start first Holds now out old reading number s (Ok _) =
    HandledBy f m start first Holds now out reading number s × (reading.waiting ≡ None) × (reading.ended ≡ old.ended)
HandlesUnit f m start first Holds now out old reading number s (Err error) = Leaves f m start first out old.ended s error

-- each answer once a piece was fed behind the bytes `s`
abbrev pub HandlesPiece : {V O F : Type 0} → Format → Meaning V O F → V → O → OfBytes → V → O → Reading → ℕ → List ℕ → List ℕ → Result ⊤ (DriveError F) → Type 0
HandlesPiece f m start first Holds now out reading number s piece (Ok _) = IdleBy f m start first Holds now out reading number (s ++ piece)
HandlesPiece f m start first Holds now out reading number s piece (Err error) = Leaves f m start first out false (s ++ piece) error

-- each answer once the input ended behind the bytes `s`, and the visitor took the end
abbrev pub HandlesEnd : {V O F : Type 0} → Format → Meaning V O F → V → V → O → O → List ℕ → Result ⊤ (DriveError F) → Type 0
HandlesEnd f m start new first out s (Ok _) = (event f (m.judge start) s ≡ None) × m.closed start new first out (f.whole true s)
HandlesEnd f m start new first out s (Err error) = Leaves f m start first out true s error

-- each answer of the visitor to the end behind all units of `s`
abbrev pub ClosesOne : {V O F : Type 0} → Meaning V O F → V → V → O → O → ℕ → ℕ → List NalUnit → Result ⊤ (DriveError F) → Type 0
ClosesOne m start new first out number taken us (Ok _) = ((m.judge start).ending us ≡ None) × m.closed start new first out us
ClosesOne m start new first out number taken us (Err (Stopped stop)) =
    (stop.unit ≡ number) × (stop.byte ≡ taken) × ((m.judge start).ending us ≡ Some stop.why) × m.wrote start first out us
ClosesOne m start new first out number taken us (Err Read) = ⊥
ClosesOne m start new first out number taken us (Err TooLong) = ⊥
ClosesOne m start new first out number taken us (Err Memory) = ⊥
ClosesOne m start new first out number taken us (Err (Fault fault)) = m.failed start first out true us fault
