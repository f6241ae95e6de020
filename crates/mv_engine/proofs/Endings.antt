-- The answers of a run, from what the pieces and the end brought.
use Rattle.std.proofs.Common.{◌≡◌, ℕ, ◌+◌, ◌-◌, ◌≤◌, ◌==◌, Bool, true, false, List, [], ◌∷◌, ◌++◌, take, length, None, Result, Ok, Err, refl, ap, sym, ◌∙◌, subst, arith, append-nil, length-append}
use Rattle.std.specs.Prelude.{⊤}
use Rattle.std.proofs.lemmas.List.{nil_from_length}
use Rattle.mv_io.specs.Call.{Input, InputRose, input_of, Took}
use Rattle.mv_io.specs.Faults.{Rose}
use Rattle.mv_io.specs.Source.{SourceState}
use Rattle.mv_io.proofs.Taking.{Took-nothing, Took-then, Took-end}
use Rattle.mv_units.specs.Units.{NalUnit}
use Rattle.mv_judging.specs.Event.{seen}
use Rattle.mv_judging.specs.Format.{Format}
use Rattle.mv_judging.specs.Judge.{judged}
use Rattle.mv_judging.proofs.Judged.{judged-nothing}
use Rattle.mv_engine.specs.declared.error.DriveError.{DriveError}
use Rattle.mv_engine.specs.declared.error.DriveError.TheVariants.{Stopped, Read, TooLong, Memory, Fault}
use Rattle.mv_engine.specs.Driven.{Driven, largest_piece}
use Rattle.mv_engine.specs.Meaning.{Meaning, Begins}
use Rattle.mv_engine.specs.Reader.{Reading, StandsIn, IsFresh}
use Rattle.mv_engine.specs.inner.Handling.{OfBytes, IdleBy, HandlesEnd}
use Rattle.mv_engine.specs.inner.Reads.{Gains, Reads}
use Rattle.mv_engine.proofs.Fed.{all-taken, idle-quiet}

-- what is said between two reads: of the bytes taken so far, with the room that is left they make up the limit
pub record Going {V O F : Type 0} (f : Format) (m : Meaning V O F) (start : V) (first : O) (Holds : OfBytes) (now : V) (out : O) (limit room : ℕ) (input : Input) (reading : Reading) (number : ℕ) : Type 0 where
  pub taken : List ℕ
  pub took : Took input taken false
  pub within : length taken + room ≡ limit
  pub idle : IdleBy f m start first Holds now out reading number taken

-- before the first read
nothing-given : (f : Format) (b : Bool) → take 0 (f.whole b []) ≡ []
nothing-given f b = none (f.whole b [])
  where
    none : (us : List NalUnit) → take 0 us ≡ []
    none [] = refl
    none (u ∷ us) = refl

pub going-first : {V O F : Type 0} (f : Format) (m : Meaning V O F) (start : V) (first : O) (Holds : OfBytes) (limit : ℕ) (source : SourceState) (reading : Reading) → IsFresh reading → Holds [] → StandsIn f reading [] → Begins m start first →
    Going f m start first Holds start first limit limit (input_of source source) reading 0
going-first f m start first Holds limit source reading fresh holds means begins =
    let none : take reading.given (f.whole reading.ended []) ≡ [] = ap (λ n. take n (f.whole reading.ended [])) fresh.given ∙ nothing-given f reading.ended in
    record {
      taken = [];
      took = Took-nothing source;
      within = omega arith;
      idle = record {
        handled = record {
          holds = holds;
          means = means;
          counted = sym fresh.given;
          accepted = ap (judged (m.judge start)) none ∙ judged-nothing (m.judge start);
          stands = subst (m.stands start start) (sym none) begins.stands;
          wrote = subst (m.wrote start first first) (sym none) begins.wrote;
        };
        nothing_waits = fresh.waiting;
        goes_on = fresh.ended;
      };
    }

-- after a read that gave something
pub going-more : {V O F : Type 0} {f : Format} {m : Meaning V O F} {start : V} {first : O} {Holds Then : OfBytes} {now next : V} {out written : O} {old mid new : SourceState} (limit room n : ℕ) (reading following : Reading) (number then : ℕ) → (going : Going f m start first Holds now out limit room (input_of old mid) reading number) →
    Gains f m start first Then next written (input_of mid new) following then going.taken n → (n ≡ 0 → ⊥) → n ≤ room → Going f m start first Then next written limit (room - n) (input_of old new) following then
going-more {mid = mid} {new = new} limit room n reading following number then going gains some fits = record {
  taken = going.taken ++ gains.piece;
  took = Took-then going.took (subst (Took (input_of mid new) gains.piece) (not_zero n some) gains.took);
  within = let within = going.within in omega (arith, length-append going.taken gains.piece, gains.count);
  idle = gains.idle;
}
  where
    not_zero : (n : ℕ) → (n ≡ 0 → ⊥) → (n == 0) ≡ false
    not_zero n h = grind arith

-- the end was read
gains-empty : {V O F : Type 0} {f : Format} {m : Meaning V O F} {start : V} {first : O} {Then : OfBytes} {next : V} {written : O} {input : Input} (reading : Reading) (number n : ℕ) (taken : List ℕ) → (gains : Gains f m start first Then next written input reading number taken n) → n ≡ 0 → gains.piece ≡ []
gains-empty reading number n taken gains none = nil_from_length gains.piece (gains.count ∙ none)

pub gains-idle : {V O F : Type 0} {f : Format} {m : Meaning V O F} {start : V} {first : O} {Then : OfBytes} {next : V} {written : O} {input : Input} (reading : Reading) (number n : ℕ) (taken : List ℕ) → Gains f m start first Then next written input reading number taken n → n ≡ 0 →
    IdleBy f m start first Then next written reading number taken
gains-idle {f = f} {m = m} {start = start} {first = first} {Then = Then} {next = next} {written = written} reading number n taken gains none =
    subst (IdleBy f m start first Then next written reading number) (ap (λ v. taken ++ v) (gains-empty reading number n taken gains none) ∙ append-nil taken) gains.idle

pub gains-took : {V O F : Type 0} {f : Format} {m : Meaning V O F} {start : V} {first : O} {Then : OfBytes} {next : V} {written : O} {old mid new : SourceState} (reading : Reading) (number n : ℕ) (taken : List ℕ) → Took (input_of old mid) taken false → Gains f m start first Then next written (input_of mid new) reading number taken n → n ≡ 0 → Took (input_of old new) taken true
gains-took {mid = mid} {new = new} reading number n taken took gains none =
    Took-end took
    (subst (λ v. Took (input_of mid new) v true) (gains-empty reading number n taken gains none)
    (subst (λ k. Took (input_of mid new) gains.piece (k == 0)) none gains.took))

-- the end was read, and the last unit and the end handed on
pub end-driven : {V O F : Type 0} (f : Format) (m : Meaning V O F) (start new : V) (first out : O) (limit : ℕ) (input : Input) (taken : List ℕ) (answer : Result ⊤ (DriveError F)) → Took input taken true → length taken ≤ limit → seen f (m.judge start) false taken ≡ None → HandlesEnd f m start new first out taken answer → Driven f m start new first out limit input answer
end-driven f m start new first out limit input taken (Ok done) took within quiet handles = record {
  taken = taken;
  took = took;
  within = within;
  accepted = handles.0;
  closed = handles.1;
}
end-driven f m start new first out limit input taken (Err (Stopped stop)) took within quiet handles = record {
  taken = taken;
  ended = true;
  took = took;
  within = within;
  shown = handles.shows;
  prompt = record { before = taken; piece = []; parts = sym (append-nil taken); at_most = omega arith; at_end = λ h. refl; quiet = quiet };
  units = handles.within;
  wrote = handles.wrote;
}
end-driven f m start new first out limit input taken (Err Read) took within quiet handles = absurd handles
end-driven f m start new first out limit input taken (Err TooLong) took within quiet handles = absurd handles
end-driven f m start new first out limit input taken (Err Memory) took within quiet handles = record {
  taken = taken;
  ended = true;
  took = took;
  within = within;
  units = handles.units;
  begin = handles.begin;
  accepted = handles.accepted;
  wrote = handles.wrote;
}
end-driven f m start new first out limit input taken (Err (Fault fault)) took within quiet handles = record {
  taken = taken;
  ended = true;
  took = took;
  within = within;
  units = handles.units;
  begin = handles.begin;
  accepted = handles.accepted;
  at_end = handles.at_end;
  all = handles.all;
  failed = handles.failed;
}

Rose-earlier : (a b c : ℕ) → a ≤ b → Rose b c → Rose a c
Rose-earlier a b c h rose = omega (arith, rose)

-- an answer came in a piece
pub piece-driven : {V O F : Type 0} (f : Format) (m : Meaning V O F) (start : V) (first : O) (Holds Then : OfBytes) (now next : V) (out written : O) {old mid : SourceState} (new : SourceState) (limit most : ℕ) (reading following : Reading) (number then : ℕ) (taken : List ℕ) (error : DriveError F) →
    Took (input_of old mid) taken false → length taken + most ≤ limit → most ≤ largest_piece → old.faults ≤ mid.faults → IdleBy f m start first Holds now out reading number taken →
    Reads f m start first Then next written most (input_of mid new) following then taken (Err error) → Driven f m start next first written limit (input_of old new) (Err error)
piece-driven f m start first Holds Then now next out written new limit most reading following number then taken (Stopped stop) took within small count idle reads = record {
  taken = taken ++ reads.piece;
  ended = false;
  took = Took-then took reads.took;
  within = omega (arith, length-append taken reads.piece, reads.bound);
  shown = reads.leaves.shows;
  prompt = record {
    before = taken;
    piece = reads.piece;
    parts = refl;
    at_most = let bound = reads.bound in omega arith;
    at_end = λ h. absurd (cc);
    quiet = idle-quiet idle;
  };
  units = reads.leaves.within;
  wrote = reads.leaves.wrote;
}
piece-driven f m start first Holds Then now next out written {old} {mid} new limit most reading following number then taken Read took within small count idle reads = record {
  taken = taken;
  took = Took-end took reads.took;
  within = omega arith;
  rose = Rose-earlier old.faults mid.faults new.faults count reads.rose;
  quiet = idle-quiet reads.idle;
  wrote = (all-taken reads.idle).wrote;
}
piece-driven f m start first Holds Then now next out written new limit most reading following number then taken TooLong took within small count idle reads = absurd reads
piece-driven f m start first Holds Then now next out written new limit most reading following number then taken Memory took within small count idle reads = record {
  taken = taken ++ reads.piece;
  ended = false;
  took = Took-then took reads.took;
  within = omega (arith, length-append taken reads.piece, reads.bound);
  units = reads.leaves.units;
  begin = reads.leaves.begin;
  accepted = reads.leaves.accepted;
  wrote = reads.leaves.wrote;
}
piece-driven f m start first Holds Then now next out written new limit most reading following number then taken (Fault fault) took within small count idle reads = record {
  taken = taken ++ reads.piece;
  ended = false;
  took = Took-then took reads.took;
  within = omega (arith, length-append taken reads.piece, reads.bound);
  units = reads.leaves.units;
  begin = reads.leaves.begin;
  accepted = reads.leaves.accepted;
  at_end = reads.leaves.at_end;
  all = λ e. let none : false ≡ true = (reads.leaves.all e).0 in absurd (cc);
  failed = reads.leaves.failed;
}

-- one byte more was asked for behind as many as the limit, and there was one, or the read failed
pub more-driven : {V O F : Type 0} (f : Format) (m : Meaning V O F) (start : V) (first : O) (Holds : OfBytes) (now : V) (out : O) {old mid : SourceState} (new : SourceState) (limit : ℕ) (reading : Reading) (number : ℕ) (taken : List ℕ) → Took (input_of old mid) taken false → length taken ≡ limit → IdleBy f m start first Holds now out reading number taken →
    (extra : ℕ) × Took (input_of mid new) (extra ∷ []) false → Driven f m start now first out limit (input_of old new) (Err TooLong)
more-driven f m start first Holds now out new limit reading number taken took full idle (extra, ends) = record {
  taken = taken;
  extra = extra;
  took = Took-then took ends;
  limit_reached = full;
  quiet = idle-quiet idle;
  wrote = (all-taken idle).wrote;
}

pub fails-driven : {V O F : Type 0} (f : Format) (m : Meaning V O F) (start : V) (first : O) (Holds : OfBytes) (now : V) (out : O) {old mid : SourceState} (new : SourceState) (limit : ℕ) (reading : Reading) (number : ℕ) (taken : List ℕ) → Took (input_of old mid) taken false → length taken ≡ limit → old.faults ≤ mid.faults → IdleBy f m start first Holds now out reading number taken →
    Took (input_of mid new) [] false × InputRose (input_of mid new) → Driven f m start now first out limit (input_of old new) (Err Read)
fails-driven f m start first Holds now out {old} {mid} new limit reading number taken took full count idle ends = record {
  taken = taken;
  took = Took-end took ends.0;
  within = omega arith;
  rose = Rose-earlier old.faults mid.faults new.faults count ends.1;
  quiet = idle-quiet idle;
  wrote = (all-taken idle).wrote;
}

-- memory was wanting before the first read
pub no-memory : {V O F : Type 0} (f : Format) (m : Meaning V O F) (start : V) (first : O) (limit : ℕ) (source : SourceState) → Begins m start first → Driven f m start start first first limit (input_of source source) (Err Memory)
no-memory f m start first limit source begins = record {
  taken = [];
  ended = false;
  took = Took-nothing source;
  within = omega arith;
  units = [];
  begin = nothing-given f false;
  accepted = judged-nothing (m.judge start);
  wrote = begins.wrote;
}
