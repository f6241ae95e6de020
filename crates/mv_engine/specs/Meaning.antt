-- What a visitor means: a judge of units, and what was written once it was handed a list of them.
use Rattle.std.specs.Prelude.{◌≡◌, ◌⊎◌, ◌<◌, ℕ, ◌+◌, ◌^◌, Bool, true, false, List, [], ◌∷◌, ◌++◌, length, None, Some, Result, Ok, Err, ⊤}
use Rattle.mv_units.specs.Rules.{unit_rule}
use Rattle.mv_units.specs.Units.{NalUnit}
use Rattle.mv_judging.specs.Judge.{Judge}
use Rattle.mv_engine.specs.declared.error.Ending.{Ending}
use Rattle.mv_engine.specs.declared.error.Ending.TheVariants.{Objects, Fault}

pub record Meaning (V O F : Type 0) : Type 1 where
  -- a visitor from which a run may begin
  pub opens : V → Type 0
  -- what it objects to
  pub judge : V → Judge
  -- what became of it once it was handed these units, all of which were accepted
  pub stands : V → V → List NalUnit → Type 0
  -- what became of what is written on, by the first of the two: these units were written, and nothing else
  pub wrote : V → O → O → List NalUnit → Type 0
  -- what became of both once the end was taken too
  pub closed : V → V → O → O → List NalUnit → Type 0
  -- the same where the visitor couldn't go on, at the last of these units or, where that is said, at the end
  pub failed : V → O → O → Bool → List NalUnit → F → Type 0

-- a visitor that may begin was handed nothing, and nothing was written
pub record Begins {V O F : Type 0} (m : Meaning V O F) (start : V) (first : O) : Type 0 where
  pub stands : m.stands start start []
  pub wrote : m.wrote start first first []

-- a visitor may be handed a unit with that number: it was handed as many before it, and the unit breaks no rule on
-- its own bytes
pub record Ready {V O F : Type 0} (m : Meaning V O F) (now : V) (out : O) (number : ℕ) (u : NalUnit) : Type 0 where
  pub start : V
  pub first : O
  pub units : List NalUnit
  pub opens : m.opens start
  pub stands : m.stands start now units
  pub wrote : m.wrote start first out units
  pub counted : number ≡ length units
  pub countable : number + 1 < 2 ^ 64
  pub clean : unit_rule u.bytes ≡ None

-- the same of the end
pub record ReadyToEnd {V O F : Type 0} (m : Meaning V O F) (now : V) (out : O) : Type 0 where
  pub start : V
  pub first : O
  pub units : List NalUnit
  pub opens : m.opens start
  pub stands : m.stands start now units
  pub wrote : m.wrote start first out units

-- a visitor couldn't go on: before it wrote of the unit u, or once it had accepted it
abbrev pub FailsAt : {V O F : Type 0} → Meaning V O F → V → O → O → List NalUnit → NalUnit → F → Type 0
FailsAt m start first out us u fault =
    m.failed start first out false us fault
    ⊎ (((m.judge start).late us u ≡ None) × m.failed start first out false (us ++ u ∷ []) fault)

-- each answer to a unit behind others: it is accepted and written, or objected to and not written
abbrev pub Visits : {V O F : Type 0} → Meaning V O F → V → O → V → O → List NalUnit → NalUnit → Result ⊤ (Ending F) → Type 0
Visits m start first new out us u (Ok _) =
    ((m.judge start).late us u ≡ None) × m.stands start new (us ++ u ∷ []) × m.wrote start first out (us ++ u ∷ [])
Visits m start first new out us u (Err (Objects why)) = ((m.judge start).late us u ≡ Some why) × m.wrote start first out us
Visits m start first new out us u (Err (Fault fault)) = FailsAt m start first out us u fault

-- each answer to the end behind units
abbrev pub Ends : {V O F : Type 0} → Meaning V O F → V → O → V → O → List NalUnit → Result ⊤ (Ending F) → Type 0
Ends m start first new out us (Ok _) = ((m.judge start).ending us ≡ None) × m.closed start new first out us
Ends m start first new out us (Err (Objects why)) = ((m.judge start).ending us ≡ Some why) × m.wrote start first out us
Ends m start first new out us (Err (Fault fault)) = m.failed start first out true us fault
