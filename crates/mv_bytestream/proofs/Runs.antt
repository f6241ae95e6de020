-- What a byte, or a run of bytes, changes in what a scanner keeps of the bytes fed.
use Rattle.std.proofs.Common.{◌≡◌, ℕ, zero, suc, ◌+◌, ◌≤◌, Bool, true, false, cond, not, List, [], ◌∷◌, ◌++◌, length, drop, replicate, Option, None, Some, refl, ap, sym, ◌∙◌, subst, arith, length-append, append_assoc, append-nil}
use Rattle.std.specs.List.{position_from}
use Rattle.std.specs.Option.{option_map, option_or}
use Rattle.std.proofs.Math.Seq.{drop-length}
use Rattle.std.proofs.lemmas.List.{replicate_more}
use Rattle.mv_rules.specs.declared.refusal.Refusal.{Refusal}
use Rattle.mv_units.specs.Units.{is_zero, start_code, pieces, joined, NalUnit}
use Rattle.mv_units.specs.Shown.{last, refused_leading, early_refusal, first_refusal, refusal_shown}
use Rattle.mv_units.proofs.Behind.{IsTrimmed}
use Rattle.mv_units.proofs.Framed.{has_code-zero}
use Rattle.mv_units.proofs.Longer.{span}
use Rattle.mv_units.proofs.Pieces.{pieces-clean, pieces_split}
use Rattle.mv_units.proofs.Shown.{Open, opens, pieces-more, open-clean, before, behind, making_of, last-end, last-is, late, front_shown, shown-is, whole-is}
use Rattle.mv_units.proofs.Silent.{nothing_at, no_front}
use Rattle.mv_units.proofs.Trimmed.{trimmed-zero}
use Rattle.mv_bytestream.specs.Scan.{Scan, StandsFor, Keeps, bytes_of}

-- a scanner in which no unit waits, whose input goes on and that wasn't refused
abbrev pub running : ℕ → ℕ → Option NalUnit → ℕ → Scan
running fed given making z = record { fed = fed; given = given; ended = false; waiting = None; making = making; zeros = z; refusal = None }

-- what it keeps, in the words of closed pieces and the open one
pub record Runs (s : List ℕ) (cs : List (List ℕ)) (p : List ℕ) (fed given : ℕ) (making : Option NalUnit) (z : ℕ) : Type 0 where
  pub opened : Open s cs p
  pub unit_is : making_of cs p ≡ making
  pub piece : p ≡ bytes_of making ++ replicate z 0
  pub front_none : front_shown (cs ++ p ∷ []) ≡ None
  pub closed_none : first_refusal (before cs) ≡ None
  pub late_none : late cs p ≡ None
  pub number : given ≡ length (before cs)
  pub count : fed ≡ length s

abbrev pub SomeRuns : List ℕ → ℕ → ℕ → Option NalUnit → ℕ → Type 0
SomeRuns s fed given making z = (cs : List (List ℕ)) × (p : List ℕ) × Runs s cs p fed given making z

pub none_left : (n : ℕ) (us : List NalUnit) → n ≤ length us → drop n us ≡ [] → n ≡ length us
none_left zero [] low h = refl
none_left zero (u ∷ us) low h = absurd (cc)
none_left (suc n) [] low h = absurd (omega arith)
none_left (suc n) (u ∷ us) low h = let same : n ≡ length us = none_left n us (omega arith) h in omega arith

pub runs : (s : List ℕ) (fed given : ℕ) (making : Option NalUnit) (z : ℕ) → StandsFor (running fed given making z) s → SomeRuns s fed given making z
runs s fed given making z h = go (opens s)
  where
    go : (cs : List (List ℕ)) × (p : List ℕ) × Open s cs p → SomeRuns s fed given making z
    go (cs, p, is) =
        let keeps = h.keeps refl in
        let quiet = nothing_at (front_shown (cs ++ p ∷ [])) (first_refusal (before cs)) (late cs p) (sym (shown-is s cs p is) ∙ h.accepted) in
        let same : Some p ≡ Some (bytes_of making ++ replicate z 0) = sym (ap last is ∙ last-end cs p) ∙ keeps.piece in (
          cs,
          p,
          record {
            opened = is;
            unit_is = sym (last-is s cs p is) ∙ keeps.unit;
            piece = cc;
            front_none = quiet.0;
            closed_none = quiet.1;
            late_none = quiet.2;
            number = none_left given (before cs) (subst (λ us. given ≤ length us) (whole-is s cs p is) h.given) (ap (drop given) (sym (whole-is s cs p is)) ∙ h.waiting);
            count = h.fed;
          },
        )

pub quiet_at : (f v l : Option Refusal) → f ≡ None → v ≡ None → l ≡ None → option_or f (option_or v l) ≡ None
quiet_at f v l a b c = ap (λ f. option_or f (option_or v l)) a ∙ ap (λ v. option_or v l) b ∙ c

pub keeps_at : (s : List ℕ) (cs : List (List ℕ)) (p : List ℕ) (making : Option NalUnit) (z : ℕ) → Open s cs p → making_of cs p ≡ making → p ≡ bytes_of making ++ replicate z 0 → Keeps s making z
keeps_at s cs p making z is m e = record {
  unit = last-is s cs p is ∙ m;
  piece = ap last is ∙ last-end cs p ∙ ap Some e;
}

pub runs-stands : (s : List ℕ) (cs : List (List ℕ)) (p : List ℕ) (fed given : ℕ) (making : Option NalUnit) (z : ℕ) → Runs s cs p fed given making z → StandsFor (running fed given making z) s
runs-stands s cs p fed given making z h = record {
  fed = h.count;
  accepted = shown-is s cs p h.opened ∙ quiet_at _ _ _ h.front_none h.closed_none h.late_none;
  given = subst (λ us. given ≤ length us) (sym (whole-is s cs p h.opened)) (let same : given ≡ length (before cs) = h.number in omega arith);
  waiting = ap (drop given) (whole-is s cs p h.opened) ∙ ap (λ n. drop n (before cs)) h.number ∙ drop-length (before cs);
  keeps = λ _. keeps_at s cs p making z h.opened h.unit_is h.piece;
  unrefused = refl;
}

-- how far pieces reach
joined-length : (cs : List (List ℕ)) (p : List ℕ) (at : ℕ) → span cs at + length p ≡ at + length (joined (cs ++ p ∷ []))
unfolding joined
joined-length [] p at = refl
joined-length (c ∷ []) p at = omega (arith, length-append c (start_code ++ p))
joined-length (c ∷ d ∷ cs) p at =
    joined-length (d ∷ cs) p (at + length c + 3)
    ∙ omega (arith, length-append c (start_code ++ joined (d ∷ (cs ++ p ∷ []))))

pub open-length : (s : List ℕ) (cs : List (List ℕ)) (p : List ℕ) → Open s cs p → span cs 0 + length p ≡ length s
open-length s cs p is =
    joined-length cs p 0
    ∙ (let same : joined (cs ++ p ∷ []) ≡ s = ap joined (sym is) ∙ (pieces_split s).1 in
    let none : 0 + length (joined (cs ++ p ∷ [])) ≡ length (joined (cs ++ p ∷ [])) = omega arith in
    none ∙ ap length same)

-- a zero byte more
abbrev leading_in : ℕ → List ℕ → Option ℕ
leading_in i p = position_from (λ b. not (is_zero b)) i p

leading-zero : (i : ℕ) (p : List ℕ) → leading_in i (p ++ 0 ∷ []) ≡ leading_in i p
leading-zero i [] = refl
leading-zero i (a ∷ p) = ap (λ o. cond (not (is_zero a)) (Some i) o) (leading-zero (i + 1) p)

leading-first : (i : ℕ) (p : List ℕ) (b : ℕ) → leading_in i p ≡ None → is_zero b ≡ false → leading_in i (p ++ b ∷ []) ≡ Some (i + length p)
leading-first i [] b none is = ap (λ t. cond (not t) (Some i) None) is ∙ (let same : i ≡ i + 0 = omega arith in ap Some same)
leading-first i (a ∷ p) b none is = go (is_zero a) none (leading-first (i + 1) p b)
  where
    go : (t : Bool) → cond (not t) (Some i) (leading_in (i + 1) p) ≡ None → (leading_in (i + 1) p ≡ None → is_zero b ≡ false → leading_in (i + 1) (p ++ b ∷ []) ≡ Some (i + 1 + length p)) →
        cond (not t) (Some i) (leading_in (i + 1) (p ++ b ∷ [])) ≡ Some (i + length (a ∷ p))
    go true e rest = rest e is ∙ (let same : i + 1 + length p ≡ i + length (a ∷ p) = omega arith in ap Some same)
    go false e rest = absurd (cc)

pub leading-front : (i : ℕ) (p w : List ℕ) → leading_in i (p ++ w) ≡ None → leading_in i p ≡ None
leading-front i [] w h = refl
leading-front i (a ∷ p) w h = go (is_zero a) h (leading-front (i + 1) p w)
  where
    go : (t : Bool) → cond (not t) (Some i) (leading_in (i + 1) (p ++ w)) ≡ None → (leading_in (i + 1) (p ++ w) ≡ None → leading_in (i + 1) p ≡ None) → cond (not t) (Some i) (leading_in (i + 1) p) ≡ None
    go true e rest = rest e
    go false e rest = absurd (cc)

pub runs-zero : (s : List ℕ) (cs : List (List ℕ)) (p : List ℕ) (fed given : ℕ) (making : Option NalUnit) (z : ℕ) → Runs s cs p fed given making z →
    Runs (s ++ 0 ∷ []) cs (p ++ 0 ∷ []) (fed + 1) given making (z + 1)
runs-zero s cs p fed given making z h = record {
  opened = pieces-more s (0 ∷ []) cs p h.opened ∙ ap (λ qs. cs ++ qs) (pieces-clean (p ++ 0 ∷ []) (has_code-zero p ∙ open-clean s cs p h.opened));
  unit_is = same_making cs ∙ h.unit_is;
  piece =
      ap (λ q. q ++ 0 ∷ []) h.piece
      ∙ append_assoc (bytes_of making) (replicate z 0) (0 ∷ [])
      ∙ ap (λ w. bytes_of making ++ w) (replicate_more z 0);
  front_none = same_front cs h.front_none;
  closed_none = h.closed_none;
  late_none = same_late cs ∙ h.late_none;
  number = h.number;
  count = let same : fed ≡ length s = h.count in omega (arith, length-append s (0 ∷ []));
}
  where
    same_making : (cs : List (List ℕ)) → making_of cs (p ++ 0 ∷ []) ≡ making_of cs p
    same_making [] = refl
    same_making (c ∷ cs) = ap (λ b. Some (record { place = span (c ∷ cs) 0; bytes = b })) (trimmed-zero p)

    same_front : (cs : List (List ℕ)) → front_shown (cs ++ p ∷ []) ≡ None → front_shown (cs ++ (p ++ 0 ∷ []) ∷ []) ≡ None
    same_front [] e = ap (option_map refused_leading) (leading-zero 0 p) ∙ e
    same_front (c ∷ cs) e = e

    same_late : (cs : List (List ℕ)) → late cs (p ++ 0 ∷ []) ≡ late cs p
    same_late [] = refl
    same_late (c ∷ cs) = ap (λ b. early_refusal (length (before (c ∷ cs))) ((record { place = span (c ∷ cs) 0; bytes = b }))) (trimmed-zero p)

-- a byte before the first code that may not stand there
pub leading-shown : (s : List ℕ) (p : List ℕ) (fed given : ℕ) (making : Option NalUnit) (z b : ℕ) → Runs s [] p fed given making z →
    is_zero b ≡ false → pieces (p ++ b ∷ []) ≡ (p ++ b ∷ []) ∷ [] → refusal_shown false (s ++ b ∷ []) ≡ Some (refused_leading fed)
leading-shown s p fed given making z b h is clean =
    let n : 0 + length p ≡ fed = let l : span [] 0 + length p ≡ length s = open-length s [] p h.opened in let f : fed ≡ length s = h.count in omega arith in
    shown-is (s ++ b ∷ []) [] (p ++ b ∷ []) (pieces-more s (b ∷ []) [] p h.opened ∙ clean)
    ∙ ap (λ o. option_or (option_map refused_leading o) (option_or (first_refusal (before [])) None)) (leading-first 0 p b (no_front _ h.front_none) is ∙ ap Some n)

-- bytes of a unit: what they show, and what stands where they show nothing
abbrev pub unit_of : ℕ → List ℕ → NalUnit
unit_of place bytes = record { place = place; bytes = bytes }

pub content-shown : (s : List ℕ) (c : List ℕ) (cs : List (List ℕ)) (p : List ℕ) (fed given : ℕ) (u : NalUnit) (z : ℕ) (w : List ℕ) → Runs s (c ∷ cs) p fed given (Some u) z →
    pieces (p ++ w) ≡ (p ++ w) ∷ [] → IsTrimmed (p ++ w) → refusal_shown false (s ++ w) ≡ early_refusal given (unit_of u.place (p ++ w))
content-shown s c cs p fed given u z w h clean ends =
    let place : span (c ∷ cs) 0 ≡ u.place = let m : Some (behind (c ∷ cs) p) ≡ Some u = h.unit_is in let same : behind (c ∷ cs) p ≡ u = cc in ap (λ (u : NalUnit). u.place) same in
    shown-is (s ++ w) (c ∷ cs) (p ++ w) (pieces-more s w (c ∷ cs) p h.opened ∙ ap (λ qs. (c ∷ cs) ++ qs) clean)
    ∙ ap (λ f. option_or f (option_or (first_refusal (before (c ∷ cs))) (late (c ∷ cs) (p ++ w)))) h.front_none
    ∙ ap (λ v. option_or v (late (c ∷ cs) (p ++ w))) h.closed_none
    ∙ ap (λ b. early_refusal (length (before (c ∷ cs))) ((record { place = span (c ∷ cs) 0; bytes = b }))) ends
    ∙ ap (λ n. early_refusal n (unit_of (span (c ∷ cs) 0) (p ++ w))) (sym h.number)
    ∙ ap (λ at. early_refusal given (unit_of at (p ++ w))) place

pub runs-content : (s : List ℕ) (c : List ℕ) (cs : List (List ℕ)) (p : List ℕ) (fed given : ℕ) (u : NalUnit) (z : ℕ) (w : List ℕ) → Runs s (c ∷ cs) p fed given (Some u) z →
    pieces (p ++ w) ≡ (p ++ w) ∷ [] → IsTrimmed (p ++ w) → early_refusal given (unit_of u.place (p ++ w)) ≡ None →
    Runs (s ++ w) (c ∷ cs) (p ++ w) (fed + length w) given (Some (record { place = u.place; bytes = p ++ w })) 0
runs-content s c cs p fed given u z w h clean ends none =
    let same : behind (c ∷ cs) p ≡ u = let m : Some (behind (c ∷ cs) p) ≡ Some u = h.unit_is in cc in
    let place : span (c ∷ cs) 0 ≡ u.place = ap (λ (u : NalUnit). u.place) same in
    record {
      opened = pieces-more s w (c ∷ cs) p h.opened ∙ ap (λ qs. (c ∷ cs) ++ qs) clean;
      unit_is = ap (λ b. Some (record { place = span (c ∷ cs) 0; bytes = b })) ends ∙ ap (λ at. Some (record { place = at; bytes = p ++ w })) place;
      piece = sym (append-nil (p ++ w));
      front_none = h.front_none;
      closed_none = h.closed_none;
      late_none =
          ap (λ b. early_refusal (length (before (c ∷ cs))) ((record { place = span (c ∷ cs) 0; bytes = b }))) ends
          ∙ ap (λ n. early_refusal n (unit_of (span (c ∷ cs) 0) (p ++ w))) (sym h.number)
          ∙ ap (λ at. early_refusal given (unit_of at (p ++ w))) place
          ∙ none;
      number = h.number;
      count = let f : fed ≡ length s = h.count in omega (arith, length-append s w);
    }
