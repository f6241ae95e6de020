-- The answers of a call that does a task of the units of a byte string on a sink (this project's profile): when each
-- comes, and what it leaves. They are stated for any form in which the units come, any task, and any total of the
-- units that is answered where all were accepted.
use Rattle.std.specs.Prelude.{ℕ, ◌≡◌, ◌≤◌, ◌<◌, Bool, true, false, List, [], ◌∷◌, ◌++◌, length, take, Option, None, Some, IfSome, Result, Ok, Err, ⊤}
use Rattle.mv_io.specs.Call.{Input, Output, InputRose, OutputRose, Took}
use Rattle.mv_io.specs.Sink.{Appends, AppendsPrefix}
use Rattle.mv_units.specs.Shown.{StartsWith}
use Rattle.mv_units.specs.Units.{NalUnit}
use Rattle.mv_judging.specs.declared.stop.Objection.{Objection}
use Rattle.mv_judging.specs.declared.stop.Stop.{Stop}
use Rattle.mv_judging.specs.Event.{Due, Accepts as Accepted, Stops, Exceeds, ShowNothing, ShowsBy, due, event, refused_at}
use Rattle.mv_judging.specs.Format.{Format}
use Rattle.mv_judging.specs.Judge.{Judge, judged}
use Rattle.mv_engine.specs.Driven.{largest_piece}
use Rattle.mv_extract.specs.declared.error.ExtractError.{ExtractError}
use Rattle.mv_extract.specs.declared.error.ExtractError.TheVariants.{Refused, NoSuchSet, Read, Write, TooLong, Memory}
use Rattle.mv_extract.specs.Task.{Task}

-- the bytes taken decide an event: where the end was read after them it is theirs, and else every byte
-- string that begins with them has it
abbrev pub Decide : Format → Judge → List ℕ → Bool → Option Stop → Type 0
Decide f j taken true e = event f j taken ≡ e
Decide f j taken false e = ShowsBy f j taken e

-- no read came after the bytes taken decided an event: those before the last piece show nothing, and the end
-- was read only where the whole of them shows nothing
pub record Prompt (f : Format) (j : Judge) (taken : List ℕ) (ended : Bool) : Type 0 where
  pub before : List ℕ
  pub piece : List ℕ
  pub parts : taken ≡ before ++ piece
  pub at_most : length piece ≤ largest_piece
  pub at_end : ended ≡ true → piece ≡ []
  pub quiet : ShowNothing f j before

-- Ok: the end was read within the limit, the bytes taken are accepted, the sink gained the text of all their units,
-- and their total is answered
pub record Accepts {T : Type 0} (f : Format) (task : Task) (total : List NalUnit → T) (limit : ℕ) (input : Input) (output : Output) (answer : T) : Type 0 where
  pub taken : List ℕ
  pub took : Took input taken true
  pub within : length taken ≤ limit
  pub accepted : event f task.judge taken ≡ None
  pub writes : Appends output.old.taken output.new.taken (task.text (f.whole true taken))
  pub answers : answer ≡ total (f.whole true taken)

-- Refused, NoSuchSet: the bytes taken decide that the string is stopped there, with no read after that, and the sink
-- gained the text of the units before that one
pub record Halts (f : Format) (task : Task) (limit : ℕ) (input : Input) (output : Output) (stop : Stop) : Type 0 where
  pub taken : List ℕ
  pub ended : Bool
  pub took : Took input taken ended
  pub within : length taken ≤ limit
  pub decided : Decide f task.judge taken ended (Some stop)
  pub prompt : Prompt f task.judge taken ended
  pub writes : Appends output.old.taken output.new.taken (task.text (take stop.unit (f.whole true taken)))

-- Read: the source's count of faults rose, the bytes taken show nothing, and the sink gained the text of the units
-- that were taken whole
pub record ReadFails (f : Format) (task : Task) (limit : ℕ) (input : Input) (output : Output) : Type 0 where
  pub taken : List ℕ
  pub took : Took input taken false
  pub within : length taken ≤ limit
  pub rose : InputRose input
  pub quiet : ShowNothing f task.judge taken
  pub writes : Appends output.old.taken output.new.taken (task.text (f.whole false taken))

-- Write: the sink's count of faults rose, and it gained the first bytes of the text of some units, and not all of
-- them; these are the first of those that were taken whole, and all were accepted
pub record WriteFails (f : Format) (task : Task) (limit : ℕ) (input : Input) (output : Output) : Type 0 where
  pub taken : List ℕ
  pub ended : Bool
  pub took : Took input taken ended
  pub within : length taken ≤ limit
  pub rose : OutputRose output
  pub units : List NalUnit
  pub begin : StartsWith (f.whole ended taken) units
  pub accepted : judged task.judge units ≡ None
  pub writes : AppendsPrefix output.old.taken output.new.taken (task.text units)

-- TooLong: the source gave `limit` bytes, which show nothing, and another, and the sink gained the text of the units
-- that the `limit` bytes hold whole
pub record TooLongs (f : Format) (task : Task) (limit : ℕ) (input : Input) (output : Output) : Type 0 where
  pub taken : List ℕ
  pub extra : ℕ
  pub took : Took input (taken ++ extra ∷ []) false
  pub limit_reached : length taken ≡ limit
  pub quiet : ShowNothing f task.judge taken
  pub writes : Appends output.old.taken output.new.taken (task.text (f.whole false taken))

-- Memory: it has no cause that a contract knows; the sink gained the text of some units, the first of those that were
-- taken whole, all of which were accepted
pub record MemoryEnds (f : Format) (task : Task) (limit : ℕ) (input : Input) (output : Output) : Type 0 where
  pub taken : List ℕ
  pub ended : Bool
  pub took : Took input taken ended
  pub within : length taken ≤ limit
  pub units : List NalUnit
  pub begin : StartsWith (f.whole ended taken) units
  pub accepted : judged task.judge units ≡ None
  pub writes : Appends output.old.taken output.new.taken (task.text units)

-- each answer with its cause and what it leaves
abbrev pub Answers : {T : Type 0} → Format → Task → (List NalUnit → T) → ℕ → Input → Output → Result T ExtractError → Type 0
Answers f task total limit input output (Ok answer) = Accepts f task total limit input output answer
Answers f task total limit input output (Err (Refused refusal)) = Halts f task limit input output (refused_at refusal)
Answers f task total limit input output (Err (NoSuchSet asked count)) =
    (stop : Stop) × (stop.why ≡ Objection.NoSuchSet asked count) × Halts f task limit input output stop
Answers f task total limit input output (Err Read) = ReadFails f task limit input output
Answers f task total limit input output (Err Write) = WriteFails f task limit input output
Answers f task total limit input output (Err TooLong) = TooLongs f task limit input output
Answers f task total limit input output (Err Memory) = MemoryEnds f task limit input output

-- an answer is the one that the bytes of an input decide, or want of memory: that they are accepted, or the stop at which
-- they are refused or lack the set, or that there are more of them than the limit
abbrev pub IsDue : {T : Type 0} → Due → Result T ExtractError → Type 0
IsDue what (Ok answer) = what ≡ Accepted
IsDue what (Err (Refused refusal)) = what ≡ Stops (refused_at refusal)
IsDue what (Err (NoSuchSet asked count)) = (stop : Stop) × (stop.why ≡ Objection.NoSuchSet asked count) × (what ≡ Stops stop)
IsDue what (Err Read) = ⊥
IsDue what (Err Write) = ⊥
IsDue what (Err TooLong) = what ≡ Exceeds
IsDue what (Err Memory) = ⊤

-- where no count of faults rose and the source tells its bytes, they decide the answer
abbrev pub Settles : {T : Type 0} → Format → Judge → ℕ → Input → Output → Result T ExtractError → Type 0
Settles f j limit input output answer =
    ¬ InputRose input → ¬ OutputRose output → IfSome input.old.told (λ was. IsDue (due f j limit was.left) answer)

-- where a set is lacking it is the one that was asked for, and there are at least one set and at most as many as its number
abbrev pub NamesSet : ℕ → Objection → Type 0
NamesSet o (Objection.Breaks rule) = ⊤
NamesSet o (Objection.NoSuchSet asked count) = (asked ≡ o) × (count ≤ o) × (0 < count)

abbrev pub LacksOnly : {T : Type 0} → ℕ → Result T ExtractError → Type 0
LacksOnly o (Ok answer) = ⊤
LacksOnly o (Err (Refused refusal)) = ⊤
LacksOnly o (Err (NoSuchSet asked count)) = NamesSet o (Objection.NoSuchSet asked count)
LacksOnly o (Err Read) = ⊤
LacksOnly o (Err Write) = ⊤
LacksOnly o (Err TooLong) = ⊤
LacksOnly o (Err Memory) = ⊤
