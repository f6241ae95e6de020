-- What the bytes taken show, in the words of the pieces that a code closed and the open one behind them.
use Rattle.std.proofs.Common.{◌≡◌, ℕ, ◌-◌, false, not, List, [], ◌∷◌, ◌++◌, length, take, drop, Option, None, Some, slice_get, refl, ap, sym, ◌∙◌, subst, arith, length-append}
use Rattle.std.specs.List.{position_from}
use Rattle.std.specs.Option.{option_map, option_or, option_and_then}
use Rattle.std.proofs.Math.Seq.{take-append_seam}
use Rattle.mv_rules.specs.declared.refusal.Refusal.{Refusal}
use Rattle.mv_units.specs.Units.{is_zero, has_code, pieces, front_of, trimmed, NalUnit, placed, units}
use Rattle.mv_units.specs.Shown.{last, whole_units, refused_leading, early_refusal, refusal_behind, first_refusal, refusal_shown}
use Rattle.mv_units.proofs.Pieces.{AreClean, closed_of, open_of, closed-open, pieces_split, pieces-append}
use Rattle.mv_units.proofs.Longer.{span, placed-append}

-- the last of a list and what stands before it
pub take-less_one : {A : Type 0} (xs : List A) (x : A) → take (length (xs ++ x ∷ []) - 1) (xs ++ x ∷ []) ≡ xs
take-less_one xs x =
    let n : length (xs ++ x ∷ []) - 1 ≡ length xs = omega (arith, length-append xs (x ∷ [])) in
    ap (λ n. take n (xs ++ x ∷ [])) n ∙ take-append_seam xs (x ∷ [])

pub get-end : {A : Type 0} (xs : List A) (x : A) → slice_get (xs ++ x ∷ []) (length xs) ≡ Some x
get-end [] x = refl
get-end (y ∷ xs) x = get-end xs x

pub last-end : {A : Type 0} (xs : List A) (x : A) → last (xs ++ x ∷ []) ≡ Some x
last-end xs x =
    let n : length (xs ++ x ∷ []) - 1 ≡ length xs = omega (arith, length-append xs (x ∷ [])) in
    ap (slice_get (xs ++ x ∷ [])) n ∙ get-end xs x

-- the pieces of s are those that a code closed and the open one
abbrev pub Open : List ℕ → List (List ℕ) → List ℕ → Type 0
Open s cs p = pieces s ≡ cs ++ p ∷ []

pub opens : (s : List ℕ) → (cs : List (List ℕ)) × (p : List ℕ) × Open s cs p
opens s = (closed_of (pieces s), open_of (pieces s), sym (closed-open (pieces s) (pieces_split s).0))

closed-end : (cs : List (List ℕ)) (p : List ℕ) → closed_of (cs ++ p ∷ []) ≡ cs
closed-end [] p = refl
closed-end (c ∷ []) p = refl
closed-end (c ∷ d ∷ cs) p = ap (λ rest. c ∷ rest) (closed-end (d ∷ cs) p)

open-end : (cs : List (List ℕ)) (p : List ℕ) → open_of (cs ++ p ∷ []) ≡ p
open-end [] p = refl
open-end (c ∷ []) p = refl
open-end (c ∷ d ∷ cs) p = open-end (d ∷ cs) p

-- what more bytes add to the pieces
pub pieces-more : (s t : List ℕ) (cs : List (List ℕ)) (p : List ℕ) → Open s cs p → pieces (s ++ t) ≡ cs ++ pieces (p ++ t)
pieces-more s t cs p is =
    pieces-append s t
    ∙ ap (λ ps. closed_of ps ++ pieces (open_of ps ++ t)) is
    ∙ ap (λ qs. qs ++ pieces (open_of (cs ++ p ∷ []) ++ t)) (closed-end cs p)
    ∙ ap (λ q. cs ++ pieces (q ++ t)) (open-end cs p)

clean-end : (cs : List (List ℕ)) (p : List ℕ) → AreClean (cs ++ p ∷ []) → has_code p ≡ false
clean-end [] p h = h
clean-end (c ∷ []) p h = h.1
clean-end (c ∷ d ∷ cs) p h = clean-end (d ∷ cs) p h.1

pub open-clean : (s : List ℕ) (cs : List (List ℕ)) (p : List ℕ) → Open s cs p → has_code p ≡ false
open-clean s cs p is = clean-end cs p (subst AreClean is (pieces_split s).0)

-- the units of closed pieces, and the unit of the open one behind them
abbrev pub before : List (List ℕ) → List NalUnit
before cs = drop 1 (placed 0 cs)

abbrev pub behind : List (List ℕ) → List ℕ → NalUnit
behind cs p = record { place = span cs 0; bytes = trimmed p }

pub units-none : (s p : List ℕ) → Open s [] p → units s ≡ []
unfolding placed
units-none s p is = ap (λ ps. drop 1 (placed 0 ps)) is

pub units-end : (s : List ℕ) (c : List ℕ) (cs : List (List ℕ)) (p : List ℕ) → Open s (c ∷ cs) p → units s ≡ before (c ∷ cs) ++ behind (c ∷ cs) p ∷ []
unfolding placed
units-end s c cs p is = ap (λ ps. drop 1 (placed 0 ps)) is ∙ ap (drop 1) (placed-append 0 (c ∷ cs) (p ∷ []))

-- the units taken whole are those of the closed pieces
pub whole-is : (s : List ℕ) (cs : List (List ℕ)) (p : List ℕ) → Open s cs p → whole_units false s ≡ before cs
unfolding placed
whole-is s [] p is = ap (λ us. take (length us - 1) us) (units-none s p is)
whole-is s (c ∷ cs) p is =
    ap (λ us. take (length us - 1) us) (units-end s c cs p is) ∙ take-less_one (before (c ∷ cs)) (behind (c ∷ cs) p)

-- the last unit is that of the open piece, if a code came
abbrev pub making_of : List (List ℕ) → List ℕ → Option NalUnit
making_of [] p = None
making_of (c ∷ cs) p = Some (behind (c ∷ cs) p)

pub last-is : (s : List ℕ) (cs : List (List ℕ)) (p : List ℕ) → Open s cs p → last (units s) ≡ making_of cs p
last-is s [] p is = ap last (units-none s p is)
last-is s (c ∷ cs) p is = ap last (units-end s c cs p is) ∙ last-end (before (c ∷ cs)) (behind (c ∷ cs) p)

-- what the last unit shows
abbrev pub late : List (List ℕ) → List ℕ → Option Refusal
late [] p = None
late (c ∷ cs) p = early_refusal (length (before (c ∷ cs))) (behind (c ∷ cs) p)

abbrev pub front_shown : List (List ℕ) → Option Refusal
front_shown ps = option_map refused_leading (position_from (λ b. not (is_zero b)) 0 (front_of ps))

abbrev pub shown_at : List (List ℕ) → List ℕ → Option Refusal
shown_at cs p = option_or (front_shown (cs ++ p ∷ [])) (option_or (first_refusal (before cs)) (late cs p))

abbrev of_units : Option Refusal → List NalUnit → Option Refusal
of_units f us = option_or f (option_or (first_refusal (take (length us - 1) us)) (option_and_then (early_refusal (length us - 1)) (last us)))

of_units-end : (f : Option Refusal) (us : List NalUnit) (u : NalUnit) →
    of_units f (us ++ u ∷ []) ≡ option_or f (option_or (first_refusal us) (early_refusal (length us) u))
of_units-end f us u =
    let n : length (us ++ u ∷ []) - 1 ≡ length us = omega (arith, length-append us (u ∷ [])) in
    ap (λ ws. option_or f (option_or (first_refusal ws) (option_and_then (early_refusal (length (us ++ u ∷ []) - 1)) (last (us ++ u ∷ []))))) (take-less_one us u)
    ∙ ap (λ o. option_or f (option_or (first_refusal us) (option_and_then (early_refusal (length (us ++ u ∷ []) - 1)) o))) (last-end us u)
    ∙ ap (λ k. option_or f (option_or (first_refusal us) (early_refusal k u))) n

pub shown-is : (s : List ℕ) (cs : List (List ℕ)) (p : List ℕ) → Open s cs p → refusal_shown false s ≡ shown_at cs p
unfolding placed refusal_behind
shown-is s [] p is = ap (λ ps. of_units (front_shown ps) (drop 1 (placed 0 ps))) is
shown-is s (c ∷ cs) p is =
    ap (λ ps. of_units (front_shown ps) (units s)) is
    ∙ ap (of_units (front_shown (c ∷ (cs ++ p ∷ [])))) (units-end s c cs p is)
    ∙ of_units-end (front_shown (c ∷ (cs ++ p ∷ []))) (before (c ∷ cs)) (behind (c ∷ cs) p)
