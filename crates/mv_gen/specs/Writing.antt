-- What is written of a stream, whose units are given: all of them as a byte stream (Annex B), in order.
use Rattle.std.specs.Prelude.{◌≡◌, ℕ, Bool, true, false, List, [], ◌∷◌, Result, Ok, Err, ⊤}
use Rattle.mv_io.specs.Call.{Output, OutputRose}
use Rattle.mv_io.specs.Sink.{Appends, AppendsPrefix}
use Rattle.mv_units.specs.Framing.{frame}
use Rattle.mv_units.specs.Shown.{StartsWith}
use Rattle.mv_gen.specs.declared.generating.GenerateError.{GenerateError}
use Rattle.mv_gen.specs.declared.generating.GenerateError.TheVariants.{Write, Memory}

-- Write: the sink's count of faults rose, and it gained the first bytes of the units, framed, and not all of them
pub record WriteFails (us : List (List ℕ)) (output : Output) : Type 0 where
  pub rose : OutputRose output
  pub writes : AppendsPrefix output.old.taken output.new.taken (frame us)

-- Memory: the sink gained the first of the units, framed
pub record MemoryEnds (us : List (List ℕ)) (output : Output) : Type 0 where
  pub units : List (List ℕ)
  pub begin : StartsWith us units
  pub writes : Appends output.old.taken output.new.taken (frame units)

-- each answer with its cause and what the sink gained
abbrev pub Writes : List (List ℕ) → Output → Result ⊤ GenerateError → Type 0
Writes us output (Ok done) = Appends output.old.taken output.new.taken (frame us)
Writes us output (Err Write) = WriteFails us output
Writes us output (Err Memory) = MemoryEnds us output

-- the next of the units that are left was written, framed
pub record WroteNext (left left_behind : List (List ℕ)) (output : Output) : Type 0 where
  pub unit : List ℕ
  pub next : left ≡ unit ∷ left_behind
  pub writes : Appends output.old.taken output.new.taken (frame (unit ∷ []))

-- a write of it failed
pub record FailedNext (left left_behind : List (List ℕ)) (output : Output) : Type 0 where
  pub unit : List ℕ
  pub next : left ≡ unit ∷ left_behind
  pub rose : OutputRose output
  pub writes : AppendsPrefix output.old.taken output.new.taken (frame (unit ∷ []))

-- what a call answers that writes the next of the units that are left: whether one was left, and where none was, or memory
-- was wanting, the sink is as it was
abbrev pub WritesNext : List (List ℕ) → List (List ℕ) → Output → Result Bool GenerateError → Type 0
WritesNext left left_behind output (Ok true) = WroteNext left left_behind output
WritesNext left left_behind output (Ok false) = (left ≡ []) × (output.new ≡ output.old)
WritesNext left left_behind output (Err Write) = FailedNext left left_behind output
WritesNext left left_behind output (Err Memory) = output.new ≡ output.old
