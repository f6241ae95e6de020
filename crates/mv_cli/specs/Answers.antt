-- How the program answers (this project's profile): the cause of each status, and what it leaves on the
-- output and on the sink for faults.
use Rattle.std.specs.Prelude.{ℕ, ◌≡◌, ◌<◌, ◌≤◌, ◌⊎◌, List, length, take, None, IfSome, Result, Ok, Err, ⊤}
use Rattle.mv_rules.specs.declared.refusal.Refusal.{Refusal}
use Rattle.mv_io.specs.Sink.{Appends, AppendsPrefix}
use Rattle.mv_extract.specs.declared.error.ExtractError.{ExtractError}
use Rattle.mv_extract.specs.declared.error.ExtractError.TheVariants.{Refused as RefusedBy, NoSuchSet as Lacks, Read, Write, TooLong as TooManyBytes, Memory}
use Rattle.mv_judging.specs.declared.stop.Objection.{Objection}
use Rattle.mv_judging.specs.Event.{Due, Accepts as Accepted, Stops, Exceeds, due, event}
use Rattle.mv_judging.specs.Format.{Format, byte_stream}
use Rattle.mv_extract.specs.Answers.{Answers as Works}
use Rattle.mv_extract.specs.Commutes.{Extracted}
use Rattle.mv_extract.specs.Task.{Task}
use Rattle.mv_extract.specs.Text.{checking, extraction, no_sink, nothing, total}
use Rattle.mv_walk.specs.declared.step.Totals.{Totals}
use Rattle.mv_prefixed.specs.Form.{length_form}
use Rattle.mv_lenform.specs.Carrying.{carrying}
use Rattle.mv_lenform.specs.declared.carrier.Target.TheVariants.{Prefixed, Framed}
use Rattle.mv_cli.specs.declared.command.Command.{Command}
use Rattle.mv_cli.specs.declared.command.Command.TheVariants.{Extract, Check, Pack, Unpack}
use Rattle.mv_io.specs.Call.{Input, Output, InputRose, OutputRose, Untouched}
use Rattle.mv_cli.specs.declared.ending.Ending.{Ending}
use Rattle.mv_cli.specs.declared.ending.Ending.TheVariants.{Done, Refused, Usage, ReadFault, WriteFault, NoMemory, NoSuchSet, TooLong}
use Rattle.mv_cli.specs.Ending.{accepted_line, lacking_line, status_of, line_of, refusal_line}
use Rattle.mv_cli.specs.Words.{IsForm, Means, usage_line}

-- the form in which a command takes its units, and what it does of them: `extract N` judges the pictures of a byte stream
-- where set N is asked for, and writes the units that are kept for it, framed; `check` judges them where set 0 is; `pack`
-- writes all units of a byte stream, and `unpack` those of a string in the length-prefixed form, in the other form
abbrev pub form_of : Command → Format
form_of (Extract n) = byte_stream
form_of Check = byte_stream
form_of Pack = byte_stream
form_of Unpack = length_form

abbrev pub task_of : Command → Task
task_of (Extract n) = extraction n
task_of Check = checking
task_of Pack = carrying Prefixed
task_of Unpack = carrying Framed

-- a line was written, or the first of it where the output's count of faults rose
abbrev pub WritesLine : Output → List ℕ → Result ⊤ ExtractError → Type 0
WritesLine output line (Ok _) = Appends output.old.taken output.new.taken line
WritesLine output line (Err error) =
    (error ≡ Write) × OutputRose output × AppendsPrefix output.old.taken output.new.taken line

-- a check was done, and then its line was written
pub record ChecksFirst (limit : ℕ) (input : Input) (output : Output) (answer : Result ⊤ ExtractError) : Type 0 where
  pub totals : Totals
  pub checks : Works byte_stream checking (total 0) limit input no_sink (Ok totals)
  pub line : WritesLine output (accepted_line totals) answer

-- a check ended otherwise, and the output wasn't used
pub record ChecksAlone (limit : ℕ) (input : Input) (output : Output) (error : ExtractError) : Type 0 where
  pub checks : Works byte_stream checking (total 0) limit input no_sink (Err error)
  pub unused : output.new ≡ output.old

-- each answer of `check`: a write fault comes only from the line
abbrev pub Checks : ℕ → Input → Output → Result ⊤ ExtractError → Type 0
Checks limit input output (Ok _) = ChecksFirst limit input output (Ok tt)
Checks limit input output (Err Write) = ChecksFirst limit input output (Err Write)
Checks limit input output (Err (RefusedBy refusal)) = ChecksAlone limit input output (RefusedBy refusal)
Checks limit input output (Err (Lacks asked count)) = ChecksAlone limit input output (Lacks asked count)
Checks limit input output (Err Read) = ChecksAlone limit input output Read
Checks limit input output (Err TooManyBytes) = ChecksAlone limit input output TooManyBytes
Checks limit input output (Err Memory) = ChecksAlone limit input output Memory

-- when a command answers, and what the input gave and the output gained
abbrev pub Does : Command → ℕ → Input → Output → Result ⊤ ExtractError → Type 0
Does (Extract n) limit input output answer = Works byte_stream (extraction n) nothing limit input output answer
Does Check limit input output answer = Checks limit input output answer
Does Pack limit input output answer = Works byte_stream (carrying Prefixed) nothing limit input output answer
Does Unpack limit input output answer = Works length_form (carrying Framed) nothing limit input output answer

-- what the bytes of an input decide for a command
abbrev pub decided_by : Command → ℕ → List ℕ → Due
decided_by command limit held = due (form_of command) (task_of command).judge limit held

-- the words are those of a command that answered so
abbrev pub Answered : List (List ℕ) → ℕ → Input → Output → Result ⊤ ExtractError → Type 0
Answered words limit input output answer = (command : Command) × Means words command × Does command limit input output answer

-- when each ending comes, and what the input gave and the output gained
abbrev pub Caused : List (List ℕ) → ℕ → Input → Output → Ending → Type 0
Caused words limit input output Done = Answered words limit input output (Ok tt)
Caused words limit input output (Refused refusal) = Answered words limit input output (Err (RefusedBy refusal))
Caused words limit input output Usage = (¬ IsForm words) × Untouched input output
Caused words limit input output ReadFault = Answered words limit input output (Err Read)
Caused words limit input output WriteFault = Answered words limit input output (Err Write)
Caused words limit input output NoMemory = Answered words limit input output (Err Memory)
Caused words limit input output (NoSuchSet asked count) = Answered words limit input output (Err (Lacks asked count))
Caused words limit input output TooLong = Answered words limit input output (Err TooManyBytes)

-- the sink for faults gained the line, or its first bytes where its own count of faults rose
pub record Tells (faults : Output) (line : List ℕ) : Type 0 where
  pub count : ℕ
  pub gains : Appends faults.old.taken faults.new.taken (take count line)
  pub all : count < length line → OutputRose faults

-- the run ended in one of the endings, by its cause, with its status and its line
pub record Answers (words : List (List ℕ)) (limit : ℕ) (input : Input) (output faults : Output) (status : ℕ) : Type 0 where
  pub ending : Ending
  pub status_is : status ≡ status_of ending
  pub caused : Caused words limit input output ending
  pub line : Tells faults (line_of ending)

-- the status of an answer
abbrev pub answer_status : Result ⊤ ExtractError → ℕ
answer_status (Ok _) = 0
answer_status (Err (RefusedBy refusal)) = 1
answer_status (Err Read) = 3
answer_status (Err Write) = 4
answer_status (Err Memory) = 5
answer_status (Err (Lacks asked count)) = 6
answer_status (Err TooManyBytes) = 7

-- the status that the bytes of an input decide
abbrev pub stop_status : Objection → ℕ
stop_status (Objection.Breaks rule) = 1
stop_status (Objection.NoSuchSet asked count) = 6

abbrev pub due_status : Due → ℕ
due_status Accepted = 0
due_status (Stops stop) = stop_status stop.why
due_status Exceeds = 7

-- `extract N` succeeds exactly when the stream is accepted and has set N, given memory and ends that don't fail; it then writes
-- the kept units in order, an accepted stream that under every picture function gives the same output pictures in the same
-- order; any other stream is refused at its first offending unit and rule, or earlier for lacking the set. The like is so of
-- the other commands:
pub record Headline (words : List (List ℕ)) (limit : ℕ) (input : Input) (output faults : Output) (status : ℕ) : Type 0 where
  -- status 0 comes only for an input that was read to its end and is accepted, and the output gained exactly what its command
  -- writes of it
  pub succeeds : status ≡ 0 → Answered words limit input output (Ok tt)
  -- `extract N` then wrote the kept units in order, framed. What it wrote is accepted, and has the same output pictures of the
  -- set in the same order: their terms are the same, and so is what any function makes of these
  pub extracts : (n : ℕ) → Means words (Extract n) → status ≡ 0 → Extracted n limit input output
  -- status 1 comes only for an input that is refused at its first offending unit and rule, the output gained exactly what is
  -- written before the refused unit, and the line on the sink for faults names unit, byte and rule
  pub refused : status ≡ 1 →
      (refusal : Refusal) × Answered words limit input output (Err (RefusedBy refusal)) × Tells faults (refusal_line refusal)
  -- status 6 comes only for `extract N`, where a video parameter set lacks set N before any unit offends, and the line names N and
  -- how many sets there are
  pub lacks : status ≡ 6 →
      (n : ℕ) × (count : ℕ) × Means words (Extract n) × Does (Extract n) limit input output (Err (Lacks n count)) × (count ≤ n) × Tells faults (lacking_line n count)
  -- status 3 comes only where the input's count of faults rose and the bytes taken show nothing, 4 only where the output's rose, and 7
  -- where the input gave a byte past the limit and the bytes before it show nothing; 5 is want of memory. Each has its line
  pub read_fault : status ≡ 3 → Answered words limit input output (Err Read) × Tells faults (line_of ReadFault)
  pub write_fault : status ≡ 4 → Answered words limit input output (Err Write) × Tells faults (line_of WriteFault)
  pub no_memory : status ≡ 5 → Answered words limit input output (Err Memory) × Tells faults (line_of NoMemory)
  pub too_long : status ≡ 7 → Answered words limit input output (Err TooManyBytes) × Tells faults (line_of TooLong)
  -- where neither the input nor the output failed and the input tells its bytes, they decide the status, or memory was
  -- wanting
  pub decided : (command : Command) → Means words command → ¬ InputRose input → ¬ OutputRose output →
      IfSome input.old.told (λ was. (status ≡ due_status (decided_by command limit was.left)) ⊎ (status ≡ 5))
  -- so where these bytes are within the limit and are accepted, the status is 0, or memory was wanting
  pub complete : (command : Command) → Means words command → ¬ InputRose input → ¬ OutputRose output →
      IfSome input.old.told (λ was. length was.left ≤ limit → event (form_of command) (task_of command).judge was.left ≡ None → (status ≡ 0) ⊎ (status ≡ 5))
  -- status 2 comes exactly where the words are no form; neither end was used then, and the line says what they may be
  pub usage : ¬ IsForm words → status ≡ 2
  pub form : status ≡ 2 → (¬ IsForm words) × Untouched input output × Tells faults usage_line
