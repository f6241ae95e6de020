-- The headline, from the cause of the ending and its line.
use Rattle.std.proofs.Common.{◌≡◌, ℕ, ◌≤◌, length, ◌⊎◌, inl, inr, List, [], ◌∷◌, ◌∙◌, Option, None, Some, Result, Ok, Err, IfSome, refl, ap, sym, subst, arith}
use Rattle.std.specs.Prelude.{⊤, codes}
use Rattle.std.specs.Str.Parse.{digits_value}
use Rattle.mv_rules.specs.declared.refusal.Refusal.{Refusal}
use Rattle.mv_io.specs.Source.{Told}
use Rattle.mv_extract.specs.declared.error.ExtractError.{ExtractError}
use Rattle.mv_extract.specs.declared.error.ExtractError.TheVariants.{Refused as RefusedBy, NoSuchSet as Lacks, Read, Write, TooLong as TooManyBytes, Memory}
use Rattle.mv_units.specs.Units.{NalUnit}
use Rattle.mv_judging.specs.Event.{Due, event}
use Rattle.mv_judging.specs.Format.{Format, byte_stream}
use Rattle.mv_judging.proofs.Seen.{due-whole}
use Rattle.mv_judging.proofs.Streams.{stream-format}
use Rattle.mv_prefixed.specs.Form.{length_form}
use Rattle.mv_prefixed.proofs.Forms.{form-of}
use Rattle.mv_extract.specs.Answers.{Answers as Works, IsDue}
use Rattle.mv_extract.specs.Commutes.{Extracted}
use Rattle.mv_extract.specs.Task.{Task}
use Rattle.mv_extract.specs.Text.{checking, extraction, no_sink, nothing, total}
use Rattle.mv_extract.proofs.Ended.{IsSound}
use Rattle.mv_io.specs.Call.{Input, InputRose, Output, OutputRose}
use Rattle.mv_extract.proofs.Settled.{settles}
use Rattle.mv_extract.proofs.Accepted.{pictures-sound}
use Rattle.mv_extract.proofs.Commuted.{extracted}
use Rattle.mv_extract.proofs.Lacking.{lacks-none, lacks-only}
use Rattle.mv_lenform.proofs.Carried.{lacks-none as carries-all, nobody-sound}
use Rattle.mv_lenform.specs.declared.carrier.Target.TheVariants.{Framed, Prefixed}
use Rattle.mv_cli.specs.declared.ending.Ending.{Ending}
use Rattle.mv_cli.specs.declared.ending.Ending.TheVariants.{Done, Refused, Usage, ReadFault, WriteFault, NoMemory, NoSuchSet, TooLong}
use Rattle.mv_cli.specs.declared.command.Command.{Command}
use Rattle.mv_cli.specs.declared.command.Command.TheVariants.{Extract, Check, Pack, Unpack}
use Rattle.mv_cli.specs.Answers.{Answered, Caused, Checks, ChecksAlone, Does, Headline, Tells, answer_status, decided_by, due_status, form_of, stop_status, task_of}
use Rattle.mv_cli.specs.Ending.{ending_of, lacking_line, line_of, refusal_line, status_of}
use Rattle.mv_cli.specs.Words.{IsExtract, Means}

decided_status : (answer : Result ⊤ ExtractError) (what : Due) → IsDue what answer → (answer_status answer ≡ due_status what) ⊎ (answer_status answer ≡ 5)
decided_status (Ok done) what is = inl (ap due_status (sym is))
decided_status (Err (RefusedBy refusal)) what is = inl (ap due_status (sym is))
decided_status (Err (Lacks asked count)) what is = inl (sym (ap due_status is.2 ∙ ap stop_status is.1))
decided_status (Err Read) what is = absurd is
decided_status (Err Write) what is = absurd is
decided_status (Err TooManyBytes) what is = inl (ap due_status (sym is))
decided_status (Err Memory) what is = inr refl

by_status : (command : Command) (old : Option Told) (limit : ℕ) (answer : Result ⊤ ExtractError) → IfSome old (λ was. IsDue (decided_by command limit was.left) answer) →
    IfSome old (λ was. (answer_status answer ≡ due_status (decided_by command limit was.left)) ⊎ (answer_status answer ≡ 5))
by_status command None limit answer h = tt
by_status command (Some was) limit answer h = decided_status answer (decided_by command limit was.left) h

-- what a command objects to is by no rule by which bytes are refused early
sound : (command : Command) → IsSound (form_of command) (task_of command).judge
sound (Extract n) = pictures-sound n
sound Check = pictures-sound 0
sound Pack = nobody-sound _ stream-format
sound Unpack = nobody-sound _ form-of

-- so where they are within the limit and accepted, it is 0
complete_by : (command : Command) (old : Option Told) (limit status : ℕ) → IfSome old (λ was. (status ≡ due_status (decided_by command limit was.left)) ⊎ (status ≡ 5)) →
    IfSome old (λ was. length was.left ≤ limit → event (form_of command) (task_of command).judge was.left ≡ None → (status ≡ 0) ⊎ (status ≡ 5))
complete_by command None limit status h = tt
complete_by command (Some was) limit status h = λ low fine. go low fine h
  where
    go : length was.left ≤ limit → event (form_of command) (task_of command).judge was.left ≡ None → (status ≡ due_status (decided_by command limit was.left)) ⊎ (status ≡ 5) → (status ≡ 0) ⊎ (status ≡ 5)
    go low fine (inl e) = inl (e ∙ ap due_status (due-whole (form_of command) (task_of command).judge limit was.left None (sound command).format low fine))
    go low fine (inr e) = inr e

-- the words of a command are no other command's
one_number : (words : List (List ℕ)) (m n : ℕ) → IsExtract words m → IsExtract words n → m ≡ n
one_number words m n first second =
    let both : codes "extract" ∷ first.word ∷ [] ≡ codes "extract" ∷ second.word ∷ [] = sym first.both ∙ second.both in
    let same : first.word ≡ second.word = cc in
    first.number.value ∙ ap (digits_value 10) same ∙ sym second.number.value

not_alone : {A : Type 0} (words : List (List ℕ)) (n : ℕ) (word : List ℕ) → IsExtract words n → words ≡ word ∷ [] → A
not_alone words n word extracts alone = absurd (let h : codes "extract" ∷ extracts.word ∷ [] ≡ word ∷ [] = sym extracts.both ∙ alone in cc)

differ : {A : Type 0} (words : List (List ℕ)) (a b : List ℕ) → (a ∷ [] ≡ b ∷ [] → ⊥) → words ≡ a ∷ [] → words ≡ b ∷ [] → A
differ words a b isnt first second = absurd (isnt (sym first ∙ second))

only : (words : List (List ℕ)) (a b : Command) → Means words a → Means words b → a ≡ b
only words (Extract m) (Extract n) first second = ap Extract (one_number words m n first second)
only words (Extract m) Check first second = not_alone words m (codes "check") first second
only words (Extract m) Pack first second = not_alone words m (codes "pack") first second
only words (Extract m) Unpack first second = not_alone words m (codes "unpack") first second
only words Check (Extract n) first second = not_alone words n (codes "check") second first
only words Check Check first second = refl
only words Check Pack first second = differ words (codes "check") (codes "pack") (λ h. cc) first second
only words Check Unpack first second = differ words (codes "check") (codes "unpack") (λ h. cc) first second
only words Pack (Extract n) first second = not_alone words n (codes "pack") second first
only words Pack Check first second = differ words (codes "pack") (codes "check") (λ h. cc) first second
only words Pack Pack first second = refl
only words Pack Unpack first second = differ words (codes "pack") (codes "unpack") (λ h. cc) first second
only words Unpack (Extract n) first second = not_alone words n (codes "unpack") second first
only words Unpack Check first second = differ words (codes "unpack") (codes "check") (λ h. cc) first second
only words Unpack Pack first second = differ words (codes "unpack") (codes "pack") (λ h. cc) first second
only words Unpack Unpack first second = refl

-- what a call answered, less what is answered of the units
pub forgets : {T : Type 0} (f : Format) (task : Task) (sum : List NalUnit → T) (limit : ℕ) (input : Input) (output : Output) (answer : T) → Works f task sum limit input output (Ok answer) → Works f task nothing limit input output (Ok tt)
forgets f task sum limit input output answer accepts = record {
  taken = accepts.taken;
  took = accepts.took;
  within = accepts.within;
  accepted = accepts.accepted;
  writes = accepts.writes;
  answers = refl;
}

-- the answer of a call without what is answered of the units
abbrev pub plain : {T : Type 0} → Result T ExtractError → Result ⊤ ExtractError
plain (Ok answer) = Ok tt
plain (Err error) = Err error

pub less : {T : Type 0} (f : Format) (task : Task) (sum : List NalUnit → T) (limit : ℕ) (input : Input) (output : Output) (answer : Result T ExtractError) → Works f task sum limit input output answer → Works f task nothing limit input output (plain answer)
less f task sum limit input output (Ok answer) works = forgets f task sum limit input output answer works
less f task sum limit input output (Err (RefusedBy refusal)) works = works
less f task sum limit input output (Err (Lacks asked count)) works = works
less f task sum limit input output (Err Read) works = works
less f task sum limit input output (Err Write) works = works
less f task sum limit input output (Err TooManyBytes) works = works
less f task sum limit input output (Err Memory) works = works

-- `check` answers nothing of the units
pub as_plain : (limit : ℕ) (input : Input) (output : Output) (answer : Result ⊤ ExtractError) → Checks limit input output answer → Checks limit input output (plain answer)
as_plain limit input output (Ok done) checks = checks
as_plain limit input output (Err error) checks = checks

-- the ending of a command that answered so
pub caused : {T : Type 0} (words : List (List ℕ)) (limit : ℕ) (input : Input) (output : Output) (answer : Result T ExtractError) → Answered words limit input output (plain answer) → Caused words limit input output (ending_of answer)
caused words limit input output (Ok answer) answered = answered
caused words limit input output (Err (RefusedBy refusal)) answered = answered
caused words limit input output (Err (Lacks asked count)) answered = answered
caused words limit input output (Err Read) answered = answered
caused words limit input output (Err Write) answered = answered
caused words limit input output (Err TooManyBytes) answered = answered
caused words limit input output (Err Memory) answered = answered

-- the same of a command by what it does
pub caused_by : {T : Type 0} (words : List (List ℕ)) (limit : ℕ) (input : Input) (output : Output) (command : Command) (answer : Result T ExtractError) (ending : Ending) → Means words command → Does command limit input output (plain answer) → ending ≡ ending_of answer → Caused words limit input output ending
caused_by words limit input output command answer ending means does same =
    subst (Caused words limit input output) (sym same) (caused words limit input output answer (command, means, does))

-- what the bytes decide of an answer of `check`, and of any command
calm_sink : OutputRose no_sink → ⊥
calm_sink h = omega (arith, h)

-- no answer but an error
abbrev fails : ExtractError → Result ⊤ ExtractError
fails error = Err error

alone : (limit : ℕ) (input : Input) (output : Output) (error : ExtractError) → ChecksAlone limit input output error → ¬ InputRose input →
    IfSome input.old.told (λ was. IsDue (decided_by Check limit was.left) (fails error))
alone limit input output error run calm = goes error run.checks
  where
    goes : (e : ExtractError) → Works byte_stream checking (total 0) limit input no_sink (Err e) → IfSome input.old.told (λ was. IsDue (decided_by Check limit was.left) (fails e))
    goes e works = settles byte_stream checking nothing limit input no_sink (Err e) (pictures-sound 0) (less byte_stream checking (total 0) limit input no_sink (Err e) works) calm calm_sink

checks_settle : (limit : ℕ) (input : Input) (output : Output) (answer : Result ⊤ ExtractError) → Checks limit input output answer → ¬ InputRose input → ¬ OutputRose output →
    IfSome input.old.told (λ was. IsDue (decided_by Check limit was.left) answer)
checks_settle limit input output (Ok done) run calm quiet =
    settles byte_stream checking nothing limit input no_sink (Ok tt) (pictures-sound 0) (forgets byte_stream checking (total 0) limit input no_sink run.totals run.checks) calm calm_sink
checks_settle limit input output (Err Write) run calm quiet = absurd (quiet run.line.1)
checks_settle limit input output (Err (RefusedBy refusal)) run calm quiet = alone limit input output (RefusedBy refusal) run calm
checks_settle limit input output (Err (Lacks asked count)) run calm quiet = alone limit input output (Lacks asked count) run calm
checks_settle limit input output (Err Read) run calm quiet = alone limit input output Read run calm
checks_settle limit input output (Err TooManyBytes) run calm quiet = alone limit input output TooManyBytes run calm
checks_settle limit input output (Err Memory) run calm quiet = alone limit input output Memory run calm

does_settle : (command : Command) (limit : ℕ) (input : Input) (output : Output) (answer : Result ⊤ ExtractError) → Does command limit input output answer → ¬ InputRose input → ¬ OutputRose output →
    IfSome input.old.told (λ was. IsDue (decided_by command limit was.left) answer)
does_settle (Extract n) limit input output answer works = settles byte_stream (extraction n) nothing limit input output answer (sound (Extract n)) works
does_settle Check limit input output answer works = checks_settle limit input output answer works
does_settle Pack limit input output answer works = settles byte_stream (task_of Pack) nothing limit input output answer (sound Pack) works
does_settle Unpack limit input output answer works = settles (form_of Unpack) (task_of Unpack) nothing limit input output answer (sound Unpack) works

-- `extract N` on status 0
extracts_by : (words : List (List ℕ)) (limit : ℕ) (input : Input) (output : Output) (n : ℕ) → Means words (Extract n) → Answered words limit input output (Ok tt) → Extracted n limit input output
extracts_by words limit input output n means answered =
    let does : Does (Extract n) limit input output (Ok tt) = subst (λ c. Does c limit input output (Ok tt)) (only words answered.0 (Extract n) answered.1 means) answered.2 in
    extracted nothing n limit input output tt does

-- the line of an answer
abbrev Told_of : Output → Result ⊤ ExtractError → Type 0
Told_of faults answer = Tells faults (line_of (ending_of answer))

-- a set is lacking for `extract` alone
abbrev Lacking : List (List ℕ) → ℕ → Input → Output → Output → Type 0
Lacking words limit input output faults =
    (n : ℕ) × (count : ℕ) × Means words (Extract n) × Does (Extract n) limit input output (Err (Lacks n count)) × (count ≤ n) × Tells faults (lacking_line n count)

lacking_by : (words : List (List ℕ)) (limit : ℕ) (input : Input) (output faults : Output) (asked count : ℕ) (command : Command) → Means words command →
    Does command limit input output (Err (Lacks asked count)) → Tells faults (lacking_line asked count) → Lacking words limit input output faults
lacking_by words limit input output faults asked count (Extract n) means does told =
    let names = lacks-only nothing n limit input output (Err (Lacks asked count)) does in
    (n, count, means, subst (λ a. Does (Extract n) limit input output (Err (Lacks a count))) names.0 does, names.1, subst (λ a. Tells faults (lacking_line a count)) names.0 told)
lacking_by words limit input output faults asked count Check means does told = absurd (lacks-none (total 0) limit input no_sink asked count does.checks)
lacking_by words limit input output faults asked count Pack means does told = absurd (carries-all byte_stream Prefixed nothing limit input output asked count does)
lacking_by words limit input output faults asked count Unpack means does told = absurd (carries-all length_form Framed nothing limit input output asked count does)

-- a command that answered
headline_by : (words : List (List ℕ)) (limit : ℕ) (input : Input) (output faults : Output) (answer : Result ⊤ ExtractError) → Answered words limit input output answer → Told_of faults answer → Headline words limit input output faults (answer_status answer)
headline_by words limit input output faults answer answered told = record {
  succeeds = λ e. accepts answer answered e;
  extracts = λ n means e. extracts_by words limit input output n means (accepts answer answered e);
  refused = λ e. refuses answer answered told e;
  lacks = λ e. lacking answer answered told e;
  read_fault = λ e. reads answer answered told e;
  write_fault = λ e. writes answer answered told e;
  no_memory = λ e. wants answer answered told e;
  too_long = λ e. exceeds answer answered told e;
  decided = λ command means calm quiet. decides command means calm quiet;
  complete = λ command means calm quiet. complete_by command input.old.told limit (answer_status answer) (decides command means calm quiet);
  usage = λ none. absurd (none (answered.0, answered.1));
  form = λ e. absurd (not_two answer e);
}
  where
    decides : (command : Command) → Means words command → ¬ InputRose input → ¬ OutputRose output →
        IfSome input.old.told (λ was. (answer_status answer ≡ due_status (decided_by command limit was.left)) ⊎ (answer_status answer ≡ 5))
    decides command means calm quiet =
        let works = subst (λ c. Does c limit input output answer) (only words answered.0 command answered.1 means) answered.2 in
        by_status command input.old.told limit answer (does_settle command limit input output answer works calm quiet)

    accepts : (a : Result ⊤ ExtractError) → Answered words limit input output a → answer_status a ≡ 0 → Answered words limit input output (Ok tt)
    accepts (Ok done) answered e = answered
    accepts (Err (RefusedBy refusal)) answered e = absurd (omega arith)
    accepts (Err (Lacks asked count)) answered e = absurd (omega arith)
    accepts (Err Read) answered e = absurd (omega arith)
    accepts (Err Write) answered e = absurd (omega arith)
    accepts (Err TooManyBytes) answered e = absurd (omega arith)
    accepts (Err Memory) answered e = absurd (omega arith)

    refuses : (a : Result ⊤ ExtractError) → Answered words limit input output a → Told_of faults a → answer_status a ≡ 1 → (refusal : Refusal) × Answered words limit input output (Err (RefusedBy refusal)) × Tells faults (refusal_line refusal)
    refuses (Ok done) answered told e = absurd (omega arith)
    refuses (Err (RefusedBy refusal)) answered told e = (refusal, answered, told)
    refuses (Err (Lacks asked count)) answered told e = absurd (omega arith)
    refuses (Err Read) answered told e = absurd (omega arith)
    refuses (Err Write) answered told e = absurd (omega arith)
    refuses (Err TooManyBytes) answered told e = absurd (omega arith)
    refuses (Err Memory) answered told e = absurd (omega arith)

    lacking : (a : Result ⊤ ExtractError) → Answered words limit input output a → Told_of faults a → answer_status a ≡ 6 → Lacking words limit input output faults
    lacking (Ok done) answered told e = absurd (omega arith)
    lacking (Err (RefusedBy refusal)) answered told e = absurd (omega arith)
    lacking (Err (Lacks asked count)) answered told e = lacking_by words limit input output faults asked count answered.0 answered.1 answered.2 told
    lacking (Err Read) answered told e = absurd (omega arith)
    lacking (Err Write) answered told e = absurd (omega arith)
    lacking (Err TooManyBytes) answered told e = absurd (omega arith)
    lacking (Err Memory) answered told e = absurd (omega arith)

    reads : (a : Result ⊤ ExtractError) → Answered words limit input output a → Told_of faults a → answer_status a ≡ 3 → Answered words limit input output (Err Read) × Tells faults (line_of ReadFault)
    reads (Ok done) answered told e = absurd (omega arith)
    reads (Err (RefusedBy refusal)) answered told e = absurd (omega arith)
    reads (Err (Lacks asked count)) answered told e = absurd (omega arith)
    reads (Err Read) answered told e = (answered, told)
    reads (Err Write) answered told e = absurd (omega arith)
    reads (Err TooManyBytes) answered told e = absurd (omega arith)
    reads (Err Memory) answered told e = absurd (omega arith)

    writes : (a : Result ⊤ ExtractError) → Answered words limit input output a → Told_of faults a → answer_status a ≡ 4 → Answered words limit input output (Err Write) × Tells faults (line_of WriteFault)
    writes (Ok done) answered told e = absurd (omega arith)
    writes (Err (RefusedBy refusal)) answered told e = absurd (omega arith)
    writes (Err (Lacks asked count)) answered told e = absurd (omega arith)
    writes (Err Read) answered told e = absurd (omega arith)
    writes (Err Write) answered told e = (answered, told)
    writes (Err TooManyBytes) answered told e = absurd (omega arith)
    writes (Err Memory) answered told e = absurd (omega arith)

    exceeds : (a : Result ⊤ ExtractError) → Answered words limit input output a → Told_of faults a → answer_status a ≡ 7 → Answered words limit input output (Err TooManyBytes) × Tells faults (line_of TooLong)
    exceeds (Ok done) answered told e = absurd (omega arith)
    exceeds (Err (RefusedBy refusal)) answered told e = absurd (omega arith)
    exceeds (Err (Lacks asked count)) answered told e = absurd (omega arith)
    exceeds (Err Read) answered told e = absurd (omega arith)
    exceeds (Err Write) answered told e = absurd (omega arith)
    exceeds (Err TooManyBytes) answered told e = (answered, told)
    exceeds (Err Memory) answered told e = absurd (omega arith)

    wants : (a : Result ⊤ ExtractError) → Answered words limit input output a → Told_of faults a → answer_status a ≡ 5 → Answered words limit input output (Err Memory) × Tells faults (line_of NoMemory)
    wants (Ok done) answered told e = absurd (omega arith)
    wants (Err (RefusedBy refusal)) answered told e = absurd (omega arith)
    wants (Err (Lacks asked count)) answered told e = absurd (omega arith)
    wants (Err Read) answered told e = absurd (omega arith)
    wants (Err Write) answered told e = absurd (omega arith)
    wants (Err TooManyBytes) answered told e = absurd (omega arith)
    wants (Err Memory) answered told e = (answered, told)

    not_two : (a : Result ⊤ ExtractError) → answer_status a ≡ 2 → ⊥
    not_two (Ok done) e = omega arith
    not_two (Err (RefusedBy refusal)) e = omega arith
    not_two (Err (Lacks asked count)) e = omega arith
    not_two (Err Read) e = omega arith
    not_two (Err Write) e = omega arith
    not_two (Err TooManyBytes) e = omega arith
    not_two (Err Memory) e = omega arith

pub headline : (words : List (List ℕ)) (limit : ℕ) (input : Input) (output faults : Output) (ending : Ending) → Caused words limit input output ending → Tells faults (line_of ending) → Headline words limit input output faults (status_of ending)
headline words limit input output faults Done caused line = headline_by words limit input output faults (Ok tt) caused line
headline words limit input output faults (Refused refusal) caused line = headline_by words limit input output faults (Err (RefusedBy refusal)) caused line
headline words limit input output faults Usage caused line = record {
  succeeds = λ e. absurd (omega arith);
  extracts = λ n means e. absurd (omega arith);
  refused = λ e. absurd (omega arith);
  lacks = λ e. absurd (omega arith);
  read_fault = λ e. absurd (omega arith);
  write_fault = λ e. absurd (omega arith);
  no_memory = λ e. absurd (omega arith);
  too_long = λ e. absurd (omega arith);
  decided = λ command means calm quiet. absurd (caused.0 (command, means));
  complete = λ command means calm quiet. absurd (caused.0 (command, means));
  usage = λ none. refl;
  form = λ e. (caused.0, caused.1, line);
}
headline words limit input output faults ReadFault caused line = headline_by words limit input output faults (Err Read) caused line
headline words limit input output faults WriteFault caused line = headline_by words limit input output faults (Err Write) caused line
headline words limit input output faults NoMemory caused line = headline_by words limit input output faults (Err Memory) caused line
headline words limit input output faults (NoSuchSet asked count) caused line = headline_by words limit input output faults (Err (Lacks asked count)) caused line
headline words limit input output faults TooLong caused line = headline_by words limit input output faults (Err TooManyBytes) caused line
