-- The answers of a call that does a task, from those of the run of its visitor.
use Rattle.std.proofs.Common.{◌≡◌, ℕ, ◌≤◌, Bool, true, false, List, [], take, length, arith, None, Some, Result, Ok, Err, refl, ap, sym, subst}
use Rattle.std.specs.Prelude.{⊤}
use Rattle.mv_io.specs.Call.{Input, Output, input_of, output_of}
use Rattle.mv_io.specs.Sink.{SinkState, Appends}
use Rattle.mv_io.specs.Source.{SourceState}
use Rattle.mv_io.proofs.Appends.{Appends-nothing}
use Rattle.mv_io.proofs.Taking.{Took-nothing}
use Rattle.mv_units.specs.Units.{NalUnit}
use Rattle.mv_units.proofs.Starts.{starts-take}
use Rattle.mv_judging.specs.declared.stop.Objection.{Objection}
use Rattle.mv_judging.specs.declared.stop.Stop.{Stop}
use Rattle.mv_judging.specs.Event.{IsLate, ShowNothing, seen}
use Rattle.mv_judging.specs.Format.{Format, IsFormat}
use Rattle.mv_judging.specs.Judge.{Judge, stop_at}
use Rattle.mv_judging.proofs.Judged.{judged-nothing}
use Rattle.mv_judging.proofs.Seen.{shows-nothing, shows-seen}
use Rattle.mv_engine.specs.declared.error.DriveError.{DriveError}
use Rattle.mv_engine.specs.declared.error.DriveError.TheVariants.{Stopped, Read as ReadFailed, TooLong as Exceeding, Memory as NoMemory, Fault}
use Rattle.mv_engine.specs.Driven.{Driven}
use Rattle.mv_extract.specs.declared.error.ExtractError.{ExtractError}
use Rattle.mv_extract.specs.declared.error.ExtractError.TheVariants.{Memory}
use Rattle.mv_extract.specs.declared.error.WorkFault.{WorkFault}
use Rattle.mv_extract.specs.declared.error.WorkFault.TheVariants.{Write as CantWrite, Memory as Wants}
use Rattle.mv_extract.specs.Answers.{Answers, Decide, Halts}
use Rattle.mv_extract.specs.Errors.{stopped_by, told}
use Rattle.mv_extract.specs.Task.{Task, Worker, working}

-- a judge that never objects by a rule by which the form refuses bytes early
pub record IsSound (f : Format) (j : Judge) : Type 0 where
  pub format : IsFormat f
  pub late : IsLate f j

silent : (f : Format) (j : Judge) → IsSound f j → (s : List ℕ) → seen f j false s ≡ None → ShowNothing f j s
silent f j is s quiet = λ e. shows-nothing f j s e is.format is.late quiet

decided : (f : Format) (j : Judge) → IsSound f j → (taken : List ℕ) (ended : Bool) (stop : Stop) → seen f j ended taken ≡ Some stop → Decide f j taken ended (Some stop)
decided f j is taken true stop shown = shown
decided f j is taken false stop shown = shows-seen f j taken stop is.format shown

-- a run of a visitor that does a task
abbrev pub Worked : {V O : Type 0} → Format → (O → SinkState) → Worker V → V → V → O → O → ℕ → Input → Result ⊤ (DriveError WorkFault) → Type 0
Worked f state w start new first out limit input answer = Driven f (working state w) start new first out limit input answer

halts : {V O : Type 0} (f : Format) (state : O → SinkState) (w : Worker V) (start new : V) (first out : O) (limit : ℕ) (input : Input) (stop : Stop) → IsSound f (w.task start).judge → Worked f state w start new first out limit input (Err (Stopped stop)) →
    Halts f (w.task start) limit input (output_of (state first) (state out)) stop
halts f state w start new first out limit input stop is run =
    let task = w.task start in
    record {
      taken = run.taken;
      ended = run.ended;
      took = run.took;
      within = run.within;
      decided = decided f task.judge is run.taken run.ended stop run.shown;
      prompt = record {
        before = run.prompt.before;
        piece = run.prompt.piece;
        parts = run.prompt.parts;
        at_most = run.prompt.at_most;
        at_end = run.prompt.at_end;
        quiet = silent f task.judge is run.prompt.before run.prompt.quiet;
      };
      writes = subst (λ us. Appends (state first).taken (state out).taken (task.text us)) (sym (whole run.ended stop.unit run.units)) run.wrote.appends;
    }
  where
    whole : (ended : Bool) (n : ℕ) → n ≤ length (f.whole ended run.taken) → take n (f.whole true run.taken) ≡ take n (f.whole ended run.taken)
    whole true n low = refl
    whole false n low = starts-take (f.whole true run.taken) (f.whole false run.taken) n (is.format.all run.taken) low

-- the error by what is said against the unit
by-why : {T : Type 0} (f : Format) (task : Task) (total : List NalUnit → T) (limit : ℕ) (input : Input) (output : Output) (stop : Stop) (why : Objection) → stop.why ≡ why → Halts f task limit input output stop → Answers f task total limit input output (Err (stopped_by stop why))
by-why f task total limit input output stop (Objection.Breaks rule) e halted =
    subst (Halts f task limit input output) (ap (stop_at stop.unit stop.byte) e) halted
by-why f task total limit input output stop (Objection.NoSuchSet asked count) e halted = (stop, e, halted)

by-error : {V O T : Type 0} (f : Format) (state : O → SinkState) (w : Worker V) (total : List NalUnit → T) (start new : V) (first out : O) (limit : ℕ) (input : Input) (error : DriveError WorkFault) → IsSound f (w.task start).judge → Worked f state w start new first out limit input (Err error) →
    Answers f (w.task start) total limit input (output_of (state first) (state out)) (Err (told error))
by-error f state w total start new first out limit input (Stopped stop) is run =
    by-why f (w.task start) total limit input (output_of (state first) (state out)) stop stop.why refl (halts f state w start new first out limit input stop is run)
by-error f state w total start new first out limit input ReadFailed is fails = record {
  taken = fails.taken;
  took = fails.took;
  within = fails.within;
  rose = fails.rose;
  quiet = silent f (w.task start).judge is fails.taken fails.quiet;
  writes = fails.wrote.appends;
}
by-error f state w total start new first out limit input Exceeding is over = record {
  taken = over.taken;
  extra = over.extra;
  took = over.took;
  limit_reached = over.limit_reached;
  quiet = silent f (w.task start).judge is over.taken over.quiet;
  writes = over.wrote.appends;
}
by-error f state w total start new first out limit input NoMemory is wants = record {
  taken = wants.taken;
  ended = wants.ended;
  took = wants.took;
  within = wants.within;
  units = wants.units;
  begin = wants.begin;
  accepted = wants.accepted;
  writes = wants.wrote.appends;
}
by-error f state w total start new first out limit input (Fault CantWrite) is fails = record {
  taken = fails.taken;
  ended = fails.ended;
  took = fails.took;
  within = fails.within;
  rose = fails.failed.rose;
  units = fails.units;
  begin = fails.begin;
  accepted = fails.accepted;
  writes = fails.failed.appends;
}
by-error f state w total start new first out limit input (Fault Wants) is fails = record {
  taken = fails.taken;
  ended = fails.ended;
  took = fails.took;
  within = fails.within;
  units = fails.units;
  begin = fails.begin;
  accepted = fails.accepted;
  writes = fails.failed.appends;
}

-- the sink's count of faults never fell
never-falls : {V O : Type 0} (f : Format) (state : O → SinkState) (w : Worker V) (start new : V) (first out : O) (limit : ℕ) (input : Input) (answer : Result ⊤ (DriveError WorkFault)) → Worked f state w start new first out limit input answer → (state first).faults ≤ (state out).faults
never-falls f state w start new first out limit input (Ok done) kept = kept.closed.1.never_falls
never-falls f state w start new first out limit input (Err (Stopped stop)) kept = kept.wrote.never_falls
never-falls f state w start new first out limit input (Err ReadFailed) kept = kept.wrote.never_falls
never-falls f state w start new first out limit input (Err Exceeding) kept = kept.wrote.never_falls
never-falls f state w start new first out limit input (Err NoMemory) kept = kept.wrote.never_falls
never-falls f state w start new first out limit input (Err (Fault CantWrite)) kept = kept.failed.never_falls
never-falls f state w start new first out limit input (Err (Fault Wants)) kept = kept.failed.never_falls

-- what a call owes of its ends
pub record Owes {T : Type 0} (f : Format) (task : Task) (total : List NalUnit → T) (limit : ℕ) (input : Input) (old new : SinkState) (answer : Result T ExtractError) : Type 0 where
  pub answers : Answers f task total limit input (output_of old new) answer
  pub sink_count : old.faults ≤ new.faults

pub ended : {V O T : Type 0} (f : Format) (state : O → SinkState) (w : Worker V) (total : List NalUnit → T) (start new : V) (first out : O) (limit : ℕ) (input : Input) (error : DriveError WorkFault) (mine : ExtractError) → IsSound f (w.task start).judge → Worked f state w start new first out limit input (Err error) → mine ≡ told error →
    Owes f (w.task start) total limit input (state first) (state out) (Err mine)
ended f state w total start new first out limit input error mine is worked same = record {
  answers = subst (λ (e : ExtractError). Answers f (w.task start) total limit input (output_of (state first) (state out)) (Err e)) (sym same)
      (by-error f state w total start new first out limit input error is worked);
  sink_count = never-falls f state w start new first out limit input (Err error) worked;
}

-- all units were accepted, and their total is what the visitor then holds
pub done : {V O T : Type 0} (f : Format) (state : O → SinkState) (w : Worker V) (total : List NalUnit → T) (start new : V) (first out : O) (limit : ℕ) (input : Input) (answer : T) → Worked f state w start new first out limit input (Ok tt) →
    ((us : List NalUnit) → w.closed start new us → answer ≡ total us) → Owes f (w.task start) total limit input (state first) (state out) (Ok answer)
done f state w total start new first out limit input answer runs held = record {
  answers = record {
    taken = runs.taken;
    took = runs.took;
    within = runs.within;
    accepted = runs.accepted;
    writes = runs.closed.1.appends;
    answers = held (f.whole true runs.taken) runs.closed.0;
  };
  sink_count = never-falls f state w start new first out limit input (Ok tt) runs;
}

-- no memory for the reader
pub no-reader : {T : Type 0} (f : Format) (task : Task) (total : List NalUnit → T) (limit : ℕ) (source : SourceState) (sink : SinkState) → task.text [] ≡ [] → Answers f task total limit (input_of source source) (output_of sink sink) (Err Memory)
no-reader f task total limit source sink nothing = record {
  taken = [];
  ended = false;
  took = Took-nothing source;
  within = omega arith;
  units = [];
  begin = refl;
  accepted = judged-nothing task.judge;
  writes = subst (Appends sink.taken sink.taken) (sym nothing) (Appends-nothing sink.taken);
}
