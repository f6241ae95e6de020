-- What feeding a piece, or the end of the input, leaves.
use Rattle.std.proofs.Common.{◌≡◌, ℕ, ◌+◌, ◌-◌, ◌<◌, ◌≤◌, ◌^◌, Bool, true, false, List, [], ◌++◌, take, drop, length, None, Ok, ap, sym, ◌∙◌, subst, arith, append_assoc, length-append, length-take}
use Rattle.std.specs.Option.{option_to_list}
use Rattle.std.proofs.lemmas.List.{take_rest, take-append-drop, length-take-le, length-drop}
use Rattle.std.proofs.Math.Seq.{take-add, take-length}
use Rattle.mv_rules.specs.declared.refusal.Refusal.{Refusal}
use Rattle.mv_units.specs.Shown.{StartsWith}
use Rattle.mv_units.specs.Units.{NalUnit}
use Rattle.mv_units.proofs.Starts.{starts-take, starts-length}
use Rattle.mv_judging.specs.declared.stop.Stop.{Stop}
use Rattle.mv_judging.specs.Event.{seen, refused_at}
use Rattle.mv_judging.specs.Format.{Format, IsFormat}
use Rattle.mv_judging.specs.Judge.{Judge, judged}
use Rattle.mv_judging.proofs.Seen.{seen-first, seen-nothing, seen-stays}
use Rattle.mv_engine.specs.declared.error.DriveError.{DriveError}
use Rattle.mv_engine.specs.declared.error.DriveError.TheVariants.{Stopped, Read, TooLong, Memory, Fault}
use Rattle.mv_engine.specs.Meaning.{Meaning}
use Rattle.mv_engine.specs.Reader.{Reading, StandsIn, ShowsIn, ShowsEnd}
use Rattle.mv_engine.specs.inner.Handling.{OfBytes, OfUnits, Handled, Idle, IdleBy, HandlesUnit, Leaves, LeavesStopped, LeavesSome}

-- where no unit waits, all units taken whole were accepted and written
pub record AllHanded (f : Format) (j : Judge) (Stands Wrote : OfUnits) (ended : Bool) (n : ℕ) (s : List ℕ) : Type 0 where
  pub given : n ≡ length (f.whole ended s)
  pub quiet : f.shown ended s ≡ None
  pub accepted : judged j (f.whole ended s) ≡ None
  pub stands : Stands (f.whole ended s)
  pub wrote : Wrote (f.whole ended s)

all-before : (us : List NalUnit) (n : ℕ) → n ≤ length us → drop n us ≡ [] → n ≡ length us
all-before us n within e = omega (arith, ap length e, length-drop n us, within)

pub all-handed : {f : Format} {j : Judge} {Holds : OfBytes} {Stands Wrote : OfUnits} {reading : Reading} {number : ℕ} {s : List ℕ} → Handled f j Holds Stands Wrote reading number s → reading.waiting ≡ None → AllHanded f j Stands Wrote reading.ended reading.given s
all-handed {f} {j} {Holds} {Stands} {Wrote} {reading} {number} {s} handled w =
    let ws = f.whole reading.ended s in
    let given : reading.given ≡ length ws = all-before ws reading.given handled.means.given (handled.means.waiting ∙ ap option_to_list w) in
    let all : take reading.given ws ≡ ws = ap (λ n. take n ws) given ∙ take-length ws in
    record {
      given = given;
      quiet = handled.means.accepted;
      accepted = ap (judged j) (sym all) ∙ handled.accepted;
      stands = subst Stands all handled.stands;
      wrote = subst Wrote all handled.wrote;
    }

-- the same while the input goes on
pub all-taken : {f : Format} {j : Judge} {Holds : OfBytes} {Stands Wrote : OfUnits} {reading : Reading} {number : ℕ} {s : List ℕ} → Idle f j Holds Stands Wrote reading number s → AllHanded f j Stands Wrote false reading.given s
all-taken {f} {j} {Holds} {Stands} {Wrote} {reading} {number} {s} idle =
    subst (λ b. AllHanded f j Stands Wrote b reading.given s) idle.goes_on (all-handed idle.handled idle.nothing_waits)

-- nothing is seen then
pub idle-quiet : {f : Format} {j : Judge} {Holds : OfBytes} {Stands Wrote : OfUnits} {reading : Reading} {number : ℕ} {s : List ℕ} → Idle f j Holds Stands Wrote reading number s → seen f j false s ≡ None
idle-quiet {f} {j} {s = s} idle = let all = all-taken idle in seen-nothing f j s all.quiet all.accepted

-- more was fed, and what was handed out stays
handled-at : {f : Format} {j : Judge} {Holds Then : OfBytes} {Stands Wrote : OfUnits} {reading next : Reading} {number : ℕ} {s t : List ℕ} → Idle f j Holds Stands Wrote reading number s → Then t → StandsIn f next t → next.given ≡ reading.given → StartsWith (f.whole next.ended t) (f.whole false s) →
    Handled f j Then Stands Wrote next number t
handled-at {f} {j} {Holds} {Then} {Stands} {Wrote} {reading} {next} {number} {s} {t} idle holds means given same =
    let all = all-taken idle in
    let done : take next.given (f.whole next.ended t) ≡ f.whole false s = ap (λ n. take n (f.whole next.ended t)) (given ∙ all.given) ∙ same in
    record {
      holds = holds;
      means = means;
      counted = idle.handled.counted ∙ sym given;
      accepted = ap (judged j) done ∙ all.accepted;
      stands = subst Stands (sym done) all.stands;
      wrote = subst Wrote (sym done) all.wrote;
    }

pub fed-handled : {f : Format} {j : Judge} {Holds Then : OfBytes} {Stands Wrote : OfUnits} {reading next : Reading} {number : ℕ} (is : IsFormat f) (s x : List ℕ) → Idle f j Holds Stands Wrote reading number s → Then (s ++ x) → StandsIn f next (s ++ x) → next.given ≡ reading.given → next.ended ≡ reading.ended →
    Handled f j Then Stands Wrote next number (s ++ x)
fed-handled {f} {reading = reading} {next = next} is s x idle holds means given ended =
    handled-at idle holds means given (subst (λ b. StartsWith (f.whole b (s ++ x)) (f.whole false s)) (sym (ended ∙ idle.goes_on)) (is.whole s x))

pub ended-handled : {f : Format} {j : Judge} {Holds Then : OfBytes} {Stands Wrote : OfUnits} {reading next : Reading} {number : ℕ} {s : List ℕ} (is : IsFormat f) → Idle f j Holds Stands Wrote reading number s → Then s → StandsIn f next s → next.given ≡ reading.given → next.ended ≡ true →
    Handled f j Then Stands Wrote next number s
ended-handled {f} {next = next} {s = s} is idle holds means given ended =
    handled-at idle holds means given (subst (λ b. StartsWith (f.whole b s) (f.whole false s)) (sym ended) (is.all s))

-- what an answer left stays right however the bytes go on
starts-again : (xs ys zs : List NalUnit) → StartsWith xs ys → StartsWith ys zs → StartsWith xs zs
starts-again xs ys zs h k = starts-take xs ys (length zs) h (starts-length ys zs k) ∙ k

stopped-longer : {f : Format} {j : Judge} {Wrote : OfUnits} (is : IsFormat f) (t x : List ℕ) (stop : Stop) → LeavesStopped f j Wrote false t stop → LeavesStopped f j Wrote false (t ++ x) stop
stopped-longer {f} {j} {Wrote} is t x stop leaves = record {
  shows = seen-stays f j t x stop is leaves.shows;
  within = let more = starts-length (f.whole false (t ++ x)) (f.whole false t) (is.whole t x) in let within = leaves.within in omega arith;
  wrote = subst Wrote (sym (starts-take (f.whole false (t ++ x)) (f.whole false t) stop.unit (is.whole t x) leaves.within)) leaves.wrote;
}

pub leaves-longer : {V O F : Type 0} (f : Format) (m : Meaning V O F) (start : V) (first out : O) (is : IsFormat f) (t x : List ℕ) (error : DriveError F) → Leaves f m start first out false t error → Leaves f m start first out false (t ++ x) error
leaves-longer f m start first out is t x (Stopped stop) leaves = stopped-longer is t x stop leaves
leaves-longer f m start first out is t x Read leaves = absurd leaves
leaves-longer f m start first out is t x TooLong leaves = absurd leaves
leaves-longer f m start first out is t x Memory leaves = record {
  units = leaves.units;
  begin = starts-again (f.whole false (t ++ x)) (f.whole false t) leaves.units (is.whole t x) leaves.begin;
  accepted = leaves.accepted;
  wrote = leaves.wrote;
}
leaves-longer f m start first out is t x (Fault fault) leaves = record {
  units = leaves.units;
  begin = starts-again (f.whole false (t ++ x)) (f.whole false t) leaves.units (is.whole t x) leaves.begin;
  accepted = leaves.accepted;
  at_end = leaves.at_end;
  all = λ e. let none : false ≡ true = (leaves.all e).0 in absurd (cc);
  failed = leaves.failed;
}

-- the units before the one behind those that s holds whole
before-is : (f : Format) (is : IsFormat f) (s x : List ℕ) (n : ℕ) → n ≡ length (f.whole false s) → take n (f.whole false (s ++ x)) ≡ f.whole false s
before-is f is s x n e = ap (λ k. take k (f.whole false (s ++ x))) e ∙ is.whole s x

-- the form refused a piece, or the end
pub feed-refused : {f : Format} {j : Judge} {Holds : OfBytes} {Stands Wrote : OfUnits} {reading : Reading} {number : ℕ} (is : IsFormat f) (s piece : List ℕ) (r : Refusal) → Idle f j Holds Stands Wrote reading number s → ShowsIn f s piece r → LeavesStopped f j Wrote false (s ++ piece) (refused_at r)
feed-refused {f} {j} {Holds} {Stands} {Wrote} {reading} is s piece r idle shows =
    let n = shows.count in
    let all = all-taken idle in
    let t = s ++ take n piece in
    let before : take r.unit (f.whole false t) ≡ f.whole false s = before-is f is s (take n piece) r.unit shows.unit in
    let more = starts-length (f.whole false t) (f.whole false s) (is.whole s (take n piece)) in
    let here : LeavesStopped f j Wrote false t (refused_at r) = record {
      shows = seen-first f j false t r shows.shown (ap (judged j) before ∙ all.accepted);
      within = let unit = shows.unit in omega arith;
      wrote = subst Wrote (sym before) all.wrote;
    } in
    let whole : t ++ drop n piece ≡ s ++ piece = append_assoc s (take n piece) (drop n piece) ∙ ap (λ v. s ++ v) (take-append-drop n piece) in
    subst (λ v. LeavesStopped f j Wrote false v (refused_at r)) whole (stopped-longer is t (drop n piece) (refused_at r) here)

pub finish-refused : {f : Format} {j : Judge} {Holds : OfBytes} {Stands Wrote : OfUnits} {reading : Reading} {number : ℕ} (is : IsFormat f) (s : List ℕ) (r : Refusal) → Idle f j Holds Stands Wrote reading number s → ShowsEnd f s r → LeavesStopped f j Wrote true s (refused_at r)
finish-refused {f} {j} {Holds} {Stands} {Wrote} {reading} is s r idle shows =
    let all = all-taken idle in
    let before : take r.unit (f.whole true s) ≡ f.whole false s = ap (λ n. take n (f.whole true s)) shows.unit ∙ is.all s in
    let more = starts-length (f.whole true s) (f.whole false s) (is.all s) in
    record {
      shows = seen-first f j true s r shows.shown (ap (judged j) before ∙ all.accepted);
      within = let unit = shows.unit in omega arith;
      wrote = subst Wrote (sym before) all.wrote;
    }

-- memory was wanting
pub idle-some : {f : Format} {j : Judge} {Holds : OfBytes} {Stands Wrote : OfUnits} {reading : Reading} {number : ℕ} (ended : Bool) (s t : List ℕ) → Idle f j Holds Stands Wrote reading number s → StartsWith (f.whole ended t) (f.whole false s) → LeavesSome f j Wrote ended t
idle-some {f} ended s t idle begin =
    let all = all-taken idle in
    record { units = f.whole false s; begin = begin; accepted = all.accepted; wrote = all.wrote }

-- a piece, part by part
pub part-more : (s piece : List ℕ) (at n : ℕ) → (s ++ take at piece) ++ take n (take (length piece - at) (drop at piece)) ≡ s ++ take (at + n) piece
part-more s piece at n =
    append_assoc s (take at piece) (take n (take (length piece - at) (drop at piece)))
    ∙ ap (λ v. s ++ (take at piece ++ take n v)) (take_rest piece at)
    ∙ ap (λ v. s ++ v) (sym (take-add at n piece))

pub part-whole : (s piece : List ℕ) (at : ℕ) → (s ++ take at piece) ++ take (length piece - at) (drop at piece) ≡ s ++ piece
part-whole s piece at =
    append_assoc s (take at piece) (take (length piece - at) (drop at piece))
    ∙ ap (λ v. s ++ (take at piece ++ v)) (take_rest piece at)
    ∙ ap (λ v. s ++ v) (take-append-drop at piece)

pub part-longer : {V O F : Type 0} (f : Format) (m : Meaning V O F) (start : V) (first out : O) (is : IsFormat f) (s piece : List ℕ) (n : ℕ) (error : DriveError F) → Leaves f m start first out false (s ++ take n piece) error → Leaves f m start first out false (s ++ piece) error
part-longer f m start first out is s piece n error leaves =
    let whole : (s ++ take n piece) ++ drop n piece ≡ s ++ piece = append_assoc s (take n piece) (drop n piece) ∙ ap (λ v. s ++ v) (take-append-drop n piece) in
    subst (λ v. Leaves f m start first out false v error) whole (leaves-longer f m start first out is (s ++ take n piece) (drop n piece) error leaves)

pub piece-handled : {f : Format} {j : Judge} {Holds Then : OfBytes} {Stands Wrote : OfUnits} {reading next : Reading} {number : ℕ} (is : IsFormat f) (s piece : List ℕ) (at n : ℕ) → Idle f j Holds Stands Wrote reading number (s ++ take at piece) →
    ((t : List ℕ) → Holds t → Then (t ++ take n (take (length piece - at) (drop at piece)))) → ((t : List ℕ) → Then t → StandsIn f next t) → next.given ≡ reading.given → next.ended ≡ reading.ended → Handled f j Then Stands Wrote next number (s ++ take (at + n) piece)
piece-handled {f} {j} {Holds} {Then} {Stands} {Wrote} {reading} {next} {number} is s piece at n idle stands means given ended =
    let holds = stands (s ++ take at piece) idle.handled.holds in
    subst (Handled f j Then Stands Wrote next number) (part-more s piece at n)
    (fed-handled is (s ++ take at piece) (take n (take (length piece - at) (drop at piece))) idle holds (means _ holds) given ended)

pub within-rest : (piece : List ℕ) (at n : ℕ) → at ≤ length piece → n ≤ length (take (length piece - at) (drop at piece)) → at + n ≤ length piece
within-rest piece at n within more =
    let rest : n ≤ length (drop at piece) = rw (← take_rest piece at) more in
    omega (arith, length-drop at piece)

pub countable-part : (s piece : List ℕ) (n : ℕ) → length s + length piece < 2 ^ 64 → length (s ++ take n piece) < 2 ^ 64
countable-part s piece n h = omega (arith, length-append s (take n piece), length-take n piece)

-- the bytes fed so far can be counted, and those behind them
pub countable-rest : (f : Format) (reading : Reading) (s piece : List ℕ) (at : ℕ) → StandsIn f reading (s ++ take at piece) → at ≤ length piece → length s + length piece < 2 ^ 64 → reading.fed + length (take (length piece - at) (drop at piece)) < 2 ^ 64
countable-rest f reading s piece at stands within countable =
    rw take_rest (omega (arith, stands.fed, length-append s (take at piece), length-take-le at piece within, length-drop at piece))

-- a unit was handed on, and none waits
pub idle-again : {V O F : Type 0} (f : Format) (m : Meaning V O F) (start : V) (first : O) (Holds : OfBytes) (now : V) (out : O) (old reading : Reading) (number : ℕ) (s : List ℕ) → HandlesUnit f m start first Holds now out old reading number s (Ok tt) → old.ended ≡ false → IdleBy f m start first Holds now out reading number s
idle-again f m start first Holds now out old reading number s handles goes = record {
  handled = handles.0;
  nothing_waits = handles.1;
  goes_on = handles.2 ∙ goes;
}
