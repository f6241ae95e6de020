-- The answer that the bytes of an input decide, from the answer and its cause.
use Rattle.std.proofs.Common.{◌≡◌, ℕ, ◌≤◌, Bool, true, false, List, [], ◌++◌, length, Option, None, Some, Result, Ok, Err, IfSome, refl}
use Rattle.mv_io.specs.Call.{Input, Output, Took}
use Rattle.mv_io.specs.Source.{Told}
use Rattle.mv_units.specs.Units.{NalUnit}
use Rattle.mv_judging.specs.declared.stop.Objection.{Objection}
use Rattle.mv_judging.specs.declared.stop.Stop.{Stop}
use Rattle.mv_judging.specs.Event.{ShowNothing, Stops, due, refused_at, seen}
use Rattle.mv_judging.specs.Format.{Format}
use Rattle.mv_judging.specs.Judge.{Judge}
use Rattle.mv_judging.proofs.Seen.{shows-only, shows-seen}
use Rattle.mv_engine.proofs.Settled.{Decided, by-event, by-shown, by-over, excused}
use Rattle.mv_extract.specs.declared.error.ExtractError.{ExtractError}
use Rattle.mv_extract.specs.declared.error.ExtractError.TheVariants.{Refused, NoSuchSet, Read, Write, TooLong, Memory}
use Rattle.mv_extract.specs.Answers.{Answers, Decide, Settles}
use Rattle.mv_extract.specs.Task.{Task}
use Rattle.mv_extract.proofs.Ended.{IsSound}

-- what shows nothing shows no stop
silent-none : (f : Format) (j : Judge) → IsSound f j → (s : List ℕ) → ShowNothing f j s → seen f j false s ≡ None
silent-none f j is s quiet = go (seen f j false s) refl
  where
    go : (o : Option Stop) → seen f j false s ≡ o → o ≡ None
    go None e = refl
    go (Some stop) e = absurd (quiet (Some stop) (shows-seen f j s stop is.format e))

by-stop : (f : Format) (j : Judge) → IsSound f j → (limit : ℕ) (input : Input) (taken : List ℕ) (ended : Bool) (stop : Stop) → Took input taken ended → length taken ≤ limit → Decide f j taken ended (Some stop) → Decided f j limit input.old.told (Stops stop)
by-stop f j is limit input taken true stop took within stopped =
    by-event f j is.format limit input.old.told input.new.told taken (Some stop) took.takes (took.at_end refl) within stopped
by-stop f j is limit input taken false stop took within stopped =
    by-shown f j is.format limit input.old.told input.new.told taken stop took.takes within (shows-only f j taken stop is.format is.late stopped)

-- what is decided is the set that is lacked
lacks : (told : Option Told) (f : Format) (j : Judge) (limit : ℕ) (stop : Stop) (asked count : ℕ) → stop.why ≡ Objection.NoSuchSet asked count → Decided f j limit told (Stops stop) →
    IfSome told (λ was. (s : Stop) × (s.why ≡ Objection.NoSuchSet asked count) × (due f j limit was.left ≡ Stops s))
lacks None f j limit stop asked count why decided = tt
lacks (Some was) f j limit stop asked count why decided = (stop, why, decided)

pub settles : {T : Type 0} (f : Format) (task : Task) (total : List NalUnit → T) (limit : ℕ) (input : Input) (output : Output) (answer : Result T ExtractError) → IsSound f task.judge → Answers f task total limit input output answer → Settles f task.judge limit input output answer
settles f task total limit input output (Ok answer) is answers calm quiet =
    by-event f task.judge is.format limit input.old.told input.new.told answers.taken None answers.took.takes (answers.took.at_end refl) answers.within answers.accepted
settles f task total limit input output (Err (Refused r)) is answers calm quiet =
    by-stop f task.judge is limit input answers.taken answers.ended (refused_at r) answers.took answers.within answers.decided
settles f task total limit input output (Err (NoSuchSet asked count)) is answers calm quiet =
    let halted = answers.2 in
    lacks input.old.told f task.judge limit answers.0 asked count answers.1
    (by-stop f task.judge is limit input halted.taken halted.ended answers.0 halted.took halted.within halted.decided)
settles f task total limit input output (Err Read) is answers calm quiet = absurd (calm answers.rose)
settles f task total limit input output (Err Write) is answers calm quiet = absurd (quiet answers.rose)
settles f task total limit input output (Err TooLong) is answers calm quiet =
    by-over f task.judge limit input.old.told input.new.told answers.taken answers.extra answers.took.takes answers.limit_reached (silent-none f task.judge is answers.taken answers.quiet)
settles f task total limit input output (Err Memory) is answers calm quiet = excused input.old.told

-- what is so of each stop that a byte string has is so of one that is decided
pub decided-why : (f : Format) (j : Judge) (P : Objection → Type 0) → ((s : List ℕ) (stop : Stop) → seen f j true s ≡ Some stop → P stop.why) →
    (taken : List ℕ) (ended : Bool) (stop : Stop) → Decide f j taken ended (Some stop) → P stop.why
decided-why f j P each taken true stop decided = each taken stop decided
decided-why f j P each taken false stop decided = each (taken ++ []) stop (decided [])
