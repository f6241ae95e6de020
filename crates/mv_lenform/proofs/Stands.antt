-- What a piece, or the end of the input, changes in what a reader stands for.
use Rattle.std.proofs.Common.{◌≡◌, ℕ, zero, suc, ◌+◌, ◌-◌, ◌<◌, ◌≤◌, nat_lt, Bool, true, false, List, [], ◌∷◌, ◌++◌, length, take, drop, None, Some, refl, ap, sym, ◌∙◌, subst, arith, length-append, inl, inr}
use Rattle.std.proofs.lemmas.Bool.{ltb-true, ltb-false}
use Rattle.std.specs.Int.{to_be_bytes, w32}
use Rattle.std.specs.Option.{option_to_list}
use Rattle.std.proofs.lemmas.List.{length-take-le}
use Rattle.std.proofs.Math.Seq.{drop-append_seam, drop-length}
use Rattle.mv_rules.specs.declared.refusal.Refusal.{Refusal}
use Rattle.mv_rules.specs.declared.rule.Rule.{Rule}
use Rattle.mv_units.specs.Units.{NalUnit}
use Rattle.mv_prefixed.specs.LenForm.{lenform}
use Rattle.mv_lenform.specs.LenScan.{StandsFor, TakesToUnit, ShowsAt, RefusedAtEnd}
use Rattle.mv_lenform.specs.Moves.{OpenBefore, Comes, RefusesAt, cut_off}
use Rattle.mv_prefixed.specs.Reading.{Open, Broken, Whole, front, read, read_most, Reading, placed_at, len_units, len_refusal}
use Rattle.mv_lenform.specs.Stages.{IsHeld, bytes_held, scan_of, has_ended, waiting_at, kept_at, refusal_at, unit_held}
use Rattle.mv_lenform.specs.declared.machine.Machine.{Machine}
use Rattle.mv_lenform.specs.declared.machine.Stage.TheVariants.{Reading as ReadingOn, Ended}
use Rattle.mv_prefixed.proofs.Forms.{placed-append, placed-length, read-on, shown-open, shown-done, shown-cut, shown-refused, refused_by, quiet-open}
use Rattle.mv_prefixed.proofs.Fronts.{front-short, front-whole}
use Rattle.mv_prefixed.proofs.ReadLaws.{after, decomposed, read-more, read-unit}

none_left : (n : ℕ) (us : List NalUnit) → n ≤ length us → drop n us ≡ [] → n ≡ length us
none_left zero [] low h = refl
none_left zero (u ∷ us) low h = absurd (cc)
none_left (suc n) [] low h = absurd (omega arith)
none_left (suc n) (u ∷ us) low h = let same : n ≡ length us = none_left n us (omega arith) h in omega arith

-- what is so of a machine that reads, in the words of the string that it stands for
pub record Stood (m : Machine) (s : List ℕ) : Type 0 where
  pub fed : m.fed ≡ length s
  pub quiet : len_refusal false s ≡ None
  pub given : m.given ≡ length (len_units s)
  pub rest : (read s).rest ≡ bytes_held m

pub stood-of : (m : Machine) (s : List ℕ) → m.stage ≡ ReadingOn → StandsFor (scan_of m) s → Stood m s
stood-of m s stage h = record {
  fed = h.fed;
  quiet = subst (λ st. len_refusal (has_ended st) s ≡ None) stage h.accepted;
  given = none_left m.given (len_units s) h.given (h.waiting ∙ ap (λ st. option_to_list (waiting_at st (unit_held m))) stage);
  rest = h.keeps ∙ ap (λ st. kept_at st (bytes_held m)) stage;
}

-- the string with bytes that go on, or that end a unit
on-units : (m : Machine) (s t : List ℕ) → Stood m s → front (bytes_held m ++ t) ≡ Open → read (s ++ t) ≡ record { units = (read s).units; rest = bytes_held m ++ t }
on-units m s t h is = read-on s t (ap (λ v. front (v ++ t)) h.rest ∙ is) ∙ ap (λ v. record { units = (read s).units; rest = v ++ t }) h.rest

pub units-open : (m : Machine) (s t : List ℕ) → Stood m s → front (bytes_held m ++ t) ≡ Open → len_units (s ++ t) ≡ len_units s
units-open m s t h is = ap (λ (r : Reading). placed_at 0 r.units) (on-units m s t h is)

pub quiet-on : (m : Machine) (s t : List ℕ) → Stood m s → front (bytes_held m ++ t) ≡ Open → len_refusal false (s ++ t) ≡ None
quiet-on m s t h is = shown-open (s ++ t) (ap (λ (r : Reading). front r.rest) (on-units m s t h is) ∙ is)

end-units : (m : Machine) (s t u : List ℕ) → Stood m s → front (bytes_held m ++ t) ≡ Whole u [] → read (s ++ t) ≡ record { units = (read s).units ++ u ∷ []; rest = [] }
unfolding read_most
end-units m s t u h is = read-more s t ∙ ap (after (read s).units) (ap (λ v. read (v ++ t)) h.rest ∙ read-unit (bytes_held m ++ t) u [] is)

-- where the unit stands
length-of : (s : List ℕ) → length s ≡ length (lenform (read s).units) + length (read s).rest
length-of s = ap (λ v. length v) (decomposed s).parts ∙ length-append (lenform (read s).units) (read s).rest

len_units-end : (m : Machine) (s t u : List ℕ) → Stood m s → front (bytes_held m ++ t) ≡ Whole u [] → len_units (s ++ t) ≡ len_units s ++ record { place = length (s ++ t) - length u; bytes = u } ∷ []
unfolding placed_at
len_units-end m s t u h is =
    let whole = front-whole (bytes_held m ++ t) u [] is in
    let len : length (bytes_held m ++ t) ≡ length (to_be_bytes w32 (length u) ++ (u ++ [])) = ap (λ v. length v) whole.parts in
    let rest : length (read s).rest ≡ length (bytes_held m) = ap (λ v. length v) h.rest in
    let place : 0 + length (lenform (read s).units) + 4 ≡ length (s ++ t) - length u =
    omega (arith, len, rest, length-of s, length-append s t, length-append (bytes_held m) t, length-append u []) in
    ap (λ (r : Reading). placed_at 0 r.units) (end-units m s t u h is)
    ∙ placed-append 0 (read s).units (u ∷ [])
    ∙ ap (λ n. len_units s ++ record { place = n; bytes = u } ∷ []) place

-- a machine that took bytes
pub takes-piece : (old new : Machine) (s p : List ℕ) (n : ℕ) → Stood old s → n ≤ length p → OpenBefore (bytes_held old) p n → new.fed ≡ old.fed + n → new.given ≡ old.given → IsHeld new → Comes old new p n → StandsFor (scan_of new) (s ++ take n p) × TakesToUnit s p n
takes-piece old new s p n h fits before fed given held (inl goes) =
    let now : front (bytes_held old ++ take n p) ≡ Open = ap front (sym goes.keeps) ∙ held.begun goes.reads in
    let units : len_units (s ++ take n p) ≡ len_units s = units-open old s (take n p) h now in (
      record {
        fed = fed ∙ (let was = h.fed in omega (arith, was, length-append s (take n p), length-take-le n p fits));
        accepted = ap (λ st. len_refusal (has_ended st) (s ++ take n p)) goes.reads ∙ quiet-on old s (take n p) h now;
        given = let count : new.given ≡ length (len_units (s ++ take n p)) = given ∙ h.given ∙ ap (λ us. length us) (sym units) in omega arith;
        waiting = ap (λ k. drop k (len_units (s ++ take n p))) (given ∙ h.given) ∙ ap (drop (length (len_units s))) units ∙ drop-length (len_units s)
            ∙ sym (ap (λ st. option_to_list (waiting_at st (unit_held new))) goes.reads);
        keeps = ap (λ (r : Reading). r.rest) (on-units old s (take n p) h now) ∙ sym goes.keeps ∙ sym (ap (λ st. kept_at st (bytes_held new)) goes.reads);
        unrefused = ap refusal_at goes.reads;
      },
      record {
        within = fits;
        before = λ k less. units-open old s (take k p) h (before k less);
        all = λ less. absurd (let all = goes.all in omega (arith, all, less));
      },
    )
takes-piece old new s p n h fits before fed given held (inr ends) =
    let count : new.fed ≡ length (s ++ take n p) = fed ∙ (let was = h.fed in omega (arith, was, length-append s (take n p), length-take-le n p fits)) in
    let units : len_units (s ++ take n p) ≡ len_units s ++ unit_held new ∷ [] =
    len_units-end old s (take n p) new.unit.items h ends.whole ∙ ap (λ k. len_units s ++ record { place = k - length new.unit.items; bytes = new.unit.items } ∷ []) (sym count) in
    let more : length (len_units (s ++ take n p)) ≡ length (len_units s) + 1 = ap (λ us. length us) units ∙ length-append (len_units s) (unit_held new ∷ []) in
    let done : (read (s ++ take n p)).rest ≡ [] = ap (λ (r : Reading). r.rest) (end-units old s (take n p) new.unit.items h ends.whole) in (
      record {
        fed = count;
        accepted = ap (λ st. len_refusal (has_ended st) (s ++ take n p)) ends.found ∙ shown-done false (s ++ take n p) done;
        given = let same : new.given ≡ length (len_units s) = given ∙ h.given in omega (arith, more, same);
        waiting = ap (λ k. drop k (len_units (s ++ take n p))) (given ∙ h.given) ∙ ap (drop (length (len_units s))) units ∙ drop-append_seam (len_units s) (unit_held new ∷ [])
            ∙ sym (ap (λ st. option_to_list (waiting_at st (unit_held new))) ends.found);
        keeps = done ∙ sym (ap (λ st. kept_at st (bytes_held new)) ends.found);
        unrefused = ap refusal_at ends.found;
      },
      record {
        within = fits;
        before = λ k less. units-open old s (take k p) h (before k less);
        all = λ less. more;
      },
    )

-- a machine that refused them
long-broken : (s : List ℕ) (rule : Rule) → front s ≡ Broken rule → 4 ≤ length s
long-broken s rule is = go (nat_lt (length s) 4) refl
  where
    go : (b : Bool) → nat_lt (length s) 4 ≡ b → 4 ≤ length s
    go true less = absurd (let h : Open ≡ Broken rule = sym (front-short s (ltb-true (length s) 4 less)) ∙ is in cc)
    go false enough = ltb-false (length s) 4 enough

pub refuses-piece : (old new : Machine) (s p : List ℕ) (r : Refusal) → Stood old s → RefusesAt old new p r → (n : ℕ) × ShowsAt s p r n
refuses-piece old new s p r h is =
    let n = is.count in
    let within = is.within in
    let rest : length (read s).rest ≡ length (bytes_held old) = ap (λ v. length v) h.rest in
    let long = long-broken (bytes_held old ++ take n p) is.rule is.broken in
    let number : old.given ≡ length (read s).units = h.given ∙ placed-length 0 (read s).units in
    let place : old.fed + n - (length (bytes_held old ++ take n p) - 4) ≡ length s - length (read s).rest + 4 =
    let was = h.fed in omega (arith, was, rest, long, length-of s, length-append (bytes_held old) (take n p), length-take-le n p within) in
    let same : r ≡ refused_by (length (read s).units) (length s - length (read s).rest + 4) is.rule = is.refusal ∙ two old.given (length (read s).units) _ _ is.rule number place in (
      n,
      record {
        some = is.some;
        within = within;
        shown = shown-refused false s (take n p) is.rule (ap (λ v. front (v ++ take n p)) h.rest ∙ is.broken) ∙ ap Some (sym same);
        before = λ k less. quiet-on old s (take k p) h (is.before k less);
        unit = ap (λ (q : Refusal). q.unit) is.refusal ∙ h.given;
      },
    )
  where
    two : (a b c d : ℕ) (rule : Rule) → a ≡ b → c ≡ d → ◌≡◌ {A = Refusal} (record { unit = a; byte = c; rule = rule }) (record { unit = b; byte = d; rule = rule })
    two a b c d rule units bytes = rw (units, bytes) refl

-- the end of the input
pub ends-input : (old : Machine) (s : List ℕ) → Stood old s → bytes_held old ≡ [] → StandsFor (scan_of (record old { stage = Ended })) s
ends-input old s h none = record {
  fed = h.fed;
  accepted = shown-done true s (h.rest ∙ none);
  given = let count = h.given in omega arith;
  waiting = ap (λ k. drop k (len_units s)) h.given ∙ drop-length (len_units s);
  keeps = h.rest ∙ none;
  unrefused = refl;
}

pub cuts-input : (old : Machine) (s : List ℕ) → Stood old s → 0 < length (bytes_held old) → RefusedAtEnd s (cut_off old)
cuts-input old s h some =
    let rest : length (read s).rest ≡ length (bytes_held old) = ap (λ v. length v) h.rest in
    let number : old.given ≡ length (read s).units = h.given ∙ placed-length 0 (read s).units in
    record {
      shown = shown-cut s (quiet-open s h.quiet) (omega (arith, rest)) ∙ ap (λ n. Some (record { unit = n; byte = length s; rule = Rule.Truncated })) (sym number)
          ∙ ap (λ n. Some (record { unit = old.given; byte = n; rule = Rule.Truncated })) (sym h.fed);
      unit = h.given;
    }

-- nothing was fed
pub stands-nothing : (m : Machine) → m.stage ≡ ReadingOn → m.fed ≡ 0 → m.given ≡ 0 → bytes_held m ≡ [] → StandsFor (scan_of m) []
unfolding read_most placed_at
stands-nothing m stage fed given bytes = record {
  fed = fed;
  accepted = ap (λ st. len_refusal (has_ended st) []) stage ∙ shown-done false [] refl;
  given = omega arith;
  waiting = ap (λ k. drop k (len_units [])) given ∙ sym (ap (λ st. option_to_list (waiting_at st (unit_held m))) stage);
  keeps = sym bytes ∙ sym (ap (λ st. kept_at st (bytes_held m)) stage);
  unrefused = ap refusal_at stage;
}
