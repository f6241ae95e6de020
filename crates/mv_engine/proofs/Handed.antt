-- What handing out the unit that waits, and trying it, leaves.
use Rattle.std.proofs.Common.{◌≡◌, inl, inr, ℕ, ◌+◌, ◌<◌, ◌^◌, true, false, List, [], ◌∷◌, ◌++◌, take, drop, length, Option, None, Some, Result, Ok, Err, All, refl, ap, sym, ◌∙◌, subst, arith}
use Rattle.std.specs.Prelude.{⊤}
use Rattle.std.specs.Option.{option_map, option_or, option_to_list}
use Rattle.std.proofs.lemmas.List.{length-take-le, length-drop, take-append-drop}
use Rattle.std.proofs.lemmas.List.Elements.{All-head, All-drop}
use Rattle.std.proofs.Math.Seq.{take-length}
use Rattle.mv_units.specs.Rules.{unit_rule}
use Rattle.mv_units.specs.Units.{NalUnit}
use Rattle.mv_judging.specs.Format.{Format, IsFormat}
use Rattle.mv_judging.specs.Judge.{Judge, judged, stop_at}
use Rattle.mv_judging.proofs.Judged.{judged-push}
use Rattle.mv_judging.proofs.Seen.{seen-judged, seen-ended}
use Rattle.mv_engine.specs.declared.error.DriveError.{DriveError}
use Rattle.mv_engine.specs.declared.error.DriveError.TheVariants.{Stopped, Read, TooLong, Memory, Fault}
use Rattle.mv_engine.specs.Meaning.{Meaning, Ready}
use Rattle.mv_engine.specs.Reader.{Reading, StandsIn, handed_out}
use Rattle.mv_engine.specs.inner.Handling.{OfBytes, OfUnits, CanHandle, ClosesOne, Handled, HandledBy, HandlesEnd, HandlesUnit, Leaves, VisitsOne}
use Rattle.mv_engine.proofs.Fed.{AllHanded, all-handed}

-- a reader that handed out the unit that waited
handed-is : (reading : Reading) (u : NalUnit) → reading.waiting ≡ Some u → handed_out reading ≡ record reading { waiting = None; given = reading.given + 1 }
handed-is reading u w = ap (λ (o : Option NalUnit). elim o as (λ x. Reading) [ None ↦ reading | Some u ↦ record reading { waiting = None; given = reading.given + 1 } ]) w

pub handed-nothing : (reading next : Reading) → reading.waiting ≡ None → next ≡ handed_out reading → next ≡ reading
handed-nothing reading next w is = is ∙ ap (λ (o : Option NalUnit). elim o as (λ x. Reading) [ None ↦ reading | Some u ↦ record reading { waiting = None; given = reading.given + 1 } ]) w

-- the units taken whole are those that were handed out, and the one that waits
pub record Waits (f : Format) (reading : Reading) (s : List ℕ) (u : NalUnit) : Type 0 where
  pub all : f.whole reading.ended s ≡ take reading.given (f.whole reading.ended s) ++ u ∷ []
  pub count : length (f.whole reading.ended s) ≡ reading.given + 1

pub waits : (f : Format) (reading : Reading) (s : List ℕ) (u : NalUnit) → StandsIn f reading s → reading.waiting ≡ Some u → Waits f reading s u
waits f reading s u stands w =
    let ws = f.whole reading.ended s in
    let last : drop reading.given ws ≡ u ∷ [] = stands.waiting ∙ ap option_to_list w in
    record {
      all = sym (take-append-drop reading.given ws) ∙ ap (λ rest. take reading.given ws ++ rest) last;
      count = omega (arith, ap length last, length-drop reading.given ws, stands.given);
    }

-- the number of the unit that waits leaves room for another
pub number-fits : {f : Format} {j : Judge} {Holds : OfBytes} {Stands Wrote : OfUnits} (is : IsFormat f) (reading : Reading) (number : ℕ) (s : List ℕ) (u : NalUnit) → Handled f j Holds Stands Wrote reading number s → length s < 2 ^ 64 → reading.waiting ≡ Some u → number + 1 < 2 ^ 64
number-fits {f} is reading number s u handled countable w =
    let waits = waits f reading s u handled.means w in
    omega (arith, waits.count, is.count reading.ended s, handled.counted, countable)

-- it breaks no rule on its bytes
last-clean : (us : List NalUnit) (n : ℕ) (u : NalUnit) → All (λ (u : NalUnit). unit_rule u.bytes ≡ None) us → drop n us ≡ u ∷ [] → unit_rule u.bytes ≡ None
last-clean us n u all e =
    All-head (λ (u : NalUnit). unit_rule u.bytes ≡ None) u [] (subst (All (λ (u : NalUnit). unit_rule u.bytes ≡ None)) e (All-drop (λ (u : NalUnit). unit_rule u.bytes ≡ None) n us all))

pub ready : {V O F : Type 0} {f : Format} {m : Meaning V O F} {Holds : OfBytes} {now : V} {out : O} (is : IsFormat f) (reading : Reading) (number : ℕ) (u : NalUnit) → CanHandle f m Holds now out reading number → reading.waiting ≡ Some u → Ready m now out number u
ready {f = f} {m = m} is reading number u can w =
    let handled = can.handled in
    let waits = waits f reading can.bytes u handled.means w in
    record {
      start = can.start;
      first = can.first;
      units = take reading.given (f.whole reading.ended can.bytes);
      opens = can.opens;
      stands = handled.stands;
      wrote = handled.wrote;
      counted = handled.counted ∙ sym (length-take-le reading.given (f.whole reading.ended can.bytes) handled.means.given);
      countable = number-fits is reading number can.bytes u handled can.countable w;
      clean = last-clean (f.whole reading.ended can.bytes) reading.given u (is.clean reading.ended can.bytes handled.means.accepted) (handled.means.waiting ∙ ap option_to_list w);
    }

-- the number of the units that were handed out
pub counted-is : {f : Format} {j : Judge} {Holds : OfBytes} {Stands Wrote : OfUnits} (reading : Reading) (number : ℕ) (s : List ℕ) → Handled f j Holds Stands Wrote reading number s → number ≡ length (take reading.given (f.whole reading.ended s))
counted-is {f} reading number s handled = handled.counted ∙ sym (length-take-le reading.given (f.whole reading.ended s) handled.means.given)

-- the unit was accepted
none_late : (j : Judge) (us : List NalUnit) (u : NalUnit) → judged j us ≡ None → j.late us u ≡ None → judged j (us ++ u ∷ []) ≡ None
none_late j us u none late =
    judged-push j us u ∙ ap (λ v. option_or v (option_map (stop_at (length us) u.place) (j.late us u))) none ∙ ap (option_map (stop_at (length us) u.place)) late

pub unit-handled : {V O F : Type 0} (f : Format) (m : Meaning V O F) (start : V) (first : O) (Holds Then : OfBytes) (now new : V) (out written : O) (reading next : Reading) (number : ℕ) (s : List ℕ) (u : NalUnit) → HandledBy f m start first Holds now out reading number s → reading.waiting ≡ Some u → next ≡ handed_out reading → Then s → StandsIn f next s →
    VisitsOne m start first new written number (take reading.given (f.whole reading.ended s)) u (Ok tt) → HandlesUnit f m start first Then new written reading next (number + 1) s (Ok tt)
unit-handled f m start first Holds Then now new out written reading next number s u handled w is holds means visits =
    let same : next ≡ record reading { waiting = None; given = reading.given + 1 } = is ∙ handed-is reading u w in
    let given : next.given ≡ reading.given + 1 = ap (λ (x : Reading). x.given) same in
    let ended : next.ended ≡ reading.ended = ap (λ (x : Reading). x.ended) same in
    let waits = waits f reading s u handled.means w in
    let done = take reading.given (f.whole reading.ended s) in
    let all : take next.given (f.whole next.ended s) ≡ done ++ u ∷ [] =
    ap (λ b. take next.given (f.whole b s)) ended
    ∙ ap (λ n. take n (f.whole reading.ended s)) (given ∙ sym waits.count)
    ∙ take-length (f.whole reading.ended s) ∙ waits.all in (
      record {
        holds = holds;
        means = means;
        counted = let counted = handled.counted in omega arith;
        accepted = ap (judged (m.judge start)) all ∙ none_late (m.judge start) done u handled.accepted visits.0;
        stands = subst (m.stands start new) (sym all) visits.1;
        wrote = subst (m.wrote start first written) (sym all) visits.2;
      },
      ap (λ (x : Reading). x.waiting) same,
      ended,
    )

-- the unit was objected to, or the visitor couldn't go on
pub unit-failed : {V O F : Type 0} (f : Format) (m : Meaning V O F) (start : V) (first : O) (Holds : OfBytes) (now new : V) (out written : O) (reading : Reading) (number : ℕ) (s : List ℕ) (u : NalUnit) (error : DriveError F) → HandledBy f m start first Holds now out reading number s → reading.waiting ≡ Some u →
    VisitsOne m start first new written number (take reading.given (f.whole reading.ended s)) u (Err error) → Leaves f m start first written reading.ended s error
unit-failed f m start first Holds now new out written reading number s u (Stopped stop) handled w visits =
    let waits = waits f reading s u handled.means w in
    let ws = f.whole reading.ended s in
    let done = take reading.given ws in
    let j = m.judge start in
    let given : stop.unit ≡ reading.given = visits.0 ∙ handled.counted in
    let count : length done ≡ stop.unit = length-take-le reading.given ws handled.means.given ∙ sym given in
    let said : judged j ws ≡ Some stop =
    ap (judged j) waits.all
    ∙ judged-push j done u
    ∙ ap (λ v. option_or v (option_map (stop_at (length done) u.place) (j.late done u))) handled.accepted
    ∙ ap (option_map (stop_at (length done) u.place)) visits.2
    ∙ ap (λ n. Some (stop_at n u.place stop.why)) count
    ∙ ap (λ p. Some (stop_at stop.unit p stop.why)) (sym visits.1) in
    record {
      shows = seen-judged f j reading.ended s stop handled.means.accepted said;
      within = omega (arith, waits.count);
      wrote = subst (m.wrote start first written) (ap (λ n. take n ws) (sym given)) visits.3;
    }
unit-failed f m start first Holds now new out written reading number s u Read handled w visits = absurd visits
unit-failed f m start first Holds now new out written reading number s u TooLong handled w visits = absurd visits
unit-failed f m start first Holds now new out written reading number s u Memory handled w visits = absurd visits
unit-failed f m start first Holds now new out written reading number s u (Fault fault) handled w (inl failed) =
    let ws = f.whole reading.ended s in
    record {
      units = take reading.given ws;
      begin = ap (λ n. take n ws) (length-take-le reading.given ws handled.means.given);
      accepted = handled.accepted;
      at_end = false;
      all = λ e. absurd (cc);
      failed = failed;
    }
unit-failed f m start first Holds now new out written reading number s u (Fault fault) handled w (inr (late, failed)) =
    let ws = f.whole reading.ended s in
    let waits = waits f reading s u handled.means w in
    record {
      units = take reading.given ws ++ u ∷ [];
      begin = ap (λ us. take (length us) ws) (sym waits.all) ∙ take-length ws ∙ waits.all;
      accepted = none_late (m.judge start) (take reading.given ws) u handled.accepted late;
      at_end = false;
      all = λ e. absurd (cc);
      failed = failed;
    }

-- the end was handed to the visitor, behind all units
pub end-closed : {V O F : Type 0} (f : Format) (m : Meaning V O F) (start : V) (first : O) (now new : V) (out written : O) (number taken : ℕ) (s : List ℕ) (answer : Result ⊤ (DriveError F)) → AllHanded f (m.judge start) (m.stands start now) (m.wrote start first out) true number s → taken ≡ length s →
    ClosesOne m start new first written number taken (f.whole true s) answer → HandlesEnd f m start new first written s answer
end-closed f m start first now new out written number taken s (Ok done) all bytes closes =
    let j = m.judge start in (
      seen-ended f j s all.quiet all.accepted ∙ ap (option_map (stop_at (length (f.whole true s)) (length s))) closes.0,
      closes.1,
    )
end-closed f m start first now new out written number taken s (Err (Stopped stop)) all bytes closes =
    let j = m.judge start in
    let ws = f.whole true s in
    record {
      shows =
          seen-ended f j s all.quiet all.accepted
          ∙ ap (option_map (stop_at (length ws) (length s))) closes.2
          ∙ ap (λ n. Some (stop_at n (length s) stop.why)) (sym (closes.0 ∙ all.given))
          ∙ ap (λ n. Some (stop_at stop.unit n stop.why)) (sym (closes.1 ∙ bytes));
      within = let unit = closes.0 in let given = all.given in omega arith;
      wrote = subst (m.wrote start first written) (sym (ap (λ n. take n ws) (closes.0 ∙ all.given) ∙ take-length ws)) closes.3;
    }
end-closed f m start first now new out written number taken s (Err Read) all bytes closes = absurd closes
end-closed f m start first now new out written number taken s (Err TooLong) all bytes closes = absurd closes
end-closed f m start first now new out written number taken s (Err Memory) all bytes closes = absurd closes
end-closed f m start first now new out written number taken s (Err (Fault fault)) all bytes closes =
    let ws = f.whole true s in
    record {
      units = ws;
      begin = take-length ws;
      accepted = all.accepted;
      at_end = true;
      all = λ e. (refl, refl);
      failed = closes;
    }

-- all units of an input that ended were handed on
pub all-ended : {f : Format} {j : Judge} {Holds : OfBytes} {Stands Wrote : OfUnits} {reading : Reading} {number : ℕ} {s : List ℕ} → Handled f j Holds Stands Wrote reading number s → reading.waiting ≡ None → reading.ended ≡ true → AllHanded f j Stands Wrote true number s
all-ended {f} {j} {Stands = Stands} {Wrote = Wrote} {reading = reading} {number = number} {s = s} handled w ended =
    subst (λ n. AllHanded f j Stands Wrote true n s) (sym handled.counted)
    (subst (λ b. AllHanded f j Stands Wrote b reading.given s) ended (all-handed handled w))
