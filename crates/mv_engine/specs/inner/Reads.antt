-- What one read gives, and what is left once its piece was handled.
use Rattle.std.specs.Prelude.{ℕ, ◌≡◌, ◌≤◌, ◌==◌, true, false, Bool, List, [], ◌∷◌, ◌++◌, length, Result, Ok, Err}
use Rattle.mv_io.specs.Call.{Input, InputRose, Took}
use Rattle.mv_judging.specs.Format.{Format}
use Rattle.mv_engine.specs.declared.error.DriveError.{DriveError}
use Rattle.mv_engine.specs.declared.error.DriveError.TheVariants.{Stopped, Read, TooLong, Memory, Fault}
use Rattle.mv_engine.specs.Meaning.{Meaning}
use Rattle.mv_engine.specs.Reader.{Reading}
use Rattle.mv_engine.specs.inner.Handling.{OfBytes, IdleBy, Leaves}

-- one read of n bytes, whose piece was handled behind the bytes `s`; none is the end
pub record Gains {V O F : Type 0} (f : Format) (m : Meaning V O F) (start : V) (first : O) (Holds : OfBytes) (now : V) (out : O) (input : Input) (reading : Reading) (number : ℕ) (s : List ℕ) (n : ℕ) : Type 0 where
  pub piece : List ℕ
  pub took : Took input piece (n == 0)
  pub count : length piece ≡ n
  pub idle : IdleBy f m start first Holds now out reading number (s ++ piece)

-- one read of at most `most` bytes behind `s`, in whose piece an answer other than Ok came
pub record StopsIn {V O F : Type 0} (f : Format) (m : Meaning V O F) (start : V) (first : O) (out : O) (most : ℕ) (input : Input) (s : List ℕ) (error : DriveError F) : Type 0 where
  pub piece : List ℕ
  pub took : Took input piece false
  pub bound : length piece ≤ most
  pub leaves : Leaves f m start first out false (s ++ piece) error

-- a read that failed: no byte was taken, and all is as it was
pub record FailsIn {V O F : Type 0} (f : Format) (m : Meaning V O F) (start : V) (first : O) (Holds : OfBytes) (now : V) (out : O) (input : Input) (reading : Reading) (number : ℕ) (s : List ℕ) : Type 0 where
  pub took : Took input [] false
  pub rose : InputRose input
  pub idle : IdleBy f m start first Holds now out reading number s

-- each answer of one read whose piece is handled
abbrev pub Reads : {V O F : Type 0} → Format → Meaning V O F → V → O → OfBytes → V → O → ℕ → Input → Reading → ℕ → List ℕ → Result ℕ (DriveError F) → Type 0
Reads f m start first Holds now out most input reading number s (Ok n) = Gains f m start first Holds now out input reading number s n
Reads f m start first Holds now out most input reading number s (Err (Stopped stop)) = StopsIn f m start first out most input s (Stopped stop)
Reads f m start first Holds now out most input reading number s (Err Read) = FailsIn f m start first Holds now out input reading number s
Reads f m start first Holds now out most input reading number s (Err TooLong) = ⊥
Reads f m start first Holds now out most input reading number s (Err Memory) = StopsIn f m start first out most input s Memory
Reads f m start first Holds now out most input reading number s (Err (Fault fault)) = StopsIn f m start first out most input s (Fault fault)

-- each answer of asking for one byte more: whether there is one
abbrev pub EndsHere : {E : Type 0} → Input → Result Bool E → Type 0
EndsHere input (Ok true) = (extra : ℕ) × Took input (extra ∷ []) false
EndsHere input (Ok false) = Took input [] true
EndsHere input (Err _) = Took input [] false × InputRose input
