-- What the bytes taken show of every byte string that begins with them.
use Rattle.std.proofs.Common.{◌≡◌, ℕ, ◌+◌, false, List, [], ◌∷◌, ◌++◌, length, take, drop, replicate, Option, None, Some, refl, ap, sym, ◌∙◌, append_assoc, append-nil}
use Rattle.std.specs.Option.{option_map, option_or}
use Rattle.std.proofs.Math.Seq.{take-append_seam}
use Rattle.mv_rules.specs.declared.refusal.Refusal.{Refusal}
use Rattle.mv_units.specs.Units.{has_code, pieces, leading, trimmed, NalUnit, placed}
use Rattle.mv_units.specs.Shown.{StartsWith, whole_units, refused_leading, unit_refusal, early_refusal, refusal_behind, first_refusal, last_refusal, refusal_shown}
use Rattle.mv_units.proofs.Behind.{lead_all, pieces-behind, has_code-front, trimmed-append, zeros_behind, trimmed-twice}
use Rattle.mv_units.proofs.Early.{early_refusal-more, early_refusal-refused}
use Rattle.mv_units.proofs.Refusals.{refusal-push, refusal-stays}
use Rattle.mv_units.proofs.Longer.{span, placed-append, leading-stays}
use Rattle.mv_units.proofs.Shown.{Open, opens, pieces-more, open-clean, before, behind, whole-is, late, front_shown, shown_at, shown-is}

-- the first piece of a longer string begins with the bytes before its zero bytes
pub front-prefix : (p s d : List ℕ) (ps : List (List ℕ)) → has_code p ≡ false → pieces (p ++ s) ≡ d ∷ ps → (y : List ℕ) × (trimmed d ≡ trimmed p ++ y)
front-prefix p s d ps clean is = go (zeros_behind p)
  where
    split : (qs : List (List ℕ)) → lead_all (trimmed p) qs ≡ d ∷ ps → (y : List ℕ) × (trimmed d ≡ trimmed p ++ y)
    split [] e = absurd (cc)
    split (q ∷ qs) e =
        let same : trimmed p ++ q ≡ d = cc in
        (trimmed q, ap trimmed (sym same) ∙ trimmed-append (trimmed p) q (trimmed-twice p))

    go : (n : ℕ) × (p ≡ trimmed p ++ replicate n 0) → (y : List ℕ) × (trimmed d ≡ trimmed p ++ y)
    go (n, whole) =
        let clean_front : has_code (trimmed p) ≡ false = has_code-front (trimmed p) (replicate n 0) (ap has_code (sym whole) ∙ clean) in
        split (pieces (replicate n 0 ++ s))
        (sym (pieces-behind (trimmed p) (replicate n 0 ++ s) (trimmed-twice p) clean_front)
        ∙ ap pieces (sym (append_assoc (trimmed p) (replicate n 0) s))
        ∙ ap (λ r. pieces (r ++ s)) (sym whole)
        ∙ is)

-- what more closed pieces add to their units
pub before-append : (c : List ℕ) (cs ds : List (List ℕ)) → before ((c ∷ cs) ++ ds) ≡ before (c ∷ cs) ++ placed (span (c ∷ cs) 0) ds
unfolding placed
before-append c cs ds = ap (drop 1) (placed-append 0 (c ∷ cs) ds)

-- a unit that the open piece showed to be refused is refused once it is closed, and before that
late-closed : (c : List ℕ) (cs : List (List ℕ)) (p s d : List ℕ) (ds : List (List ℕ)) (r : Refusal) → has_code p ≡ false → pieces (p ++ s) ≡ d ∷ ds →
    late (c ∷ cs) p ≡ Some r → late (c ∷ cs) d ≡ Some r
late-closed c cs p s d ds r clean is h = go (front-prefix p s d ds clean is)
  where
    go : (y : List ℕ) × (trimmed d ≡ trimmed p ++ y) → late (c ∷ cs) d ≡ Some r
    go (y, same) =
        ap (λ b. early_refusal (length (before (c ∷ cs))) (record { place = span (c ∷ cs) 0; bytes = b })) same
        ∙ early_refusal-more (length (before (c ∷ cs))) (span (c ∷ cs) 0) (trimmed p) y r h

verdict-grows : (us : List NalUnit) (u : NalUnit) (vs : List NalUnit) (r : Refusal) →
    option_or (first_refusal us) (unit_refusal (length us) u) ≡ Some r → first_refusal (us ++ u ∷ vs) ≡ Some r
verdict-grows us u vs r h =
    ap first_refusal (sym (append_assoc us (u ∷ []) vs))
    ∙ refusal-stays (us ++ u ∷ []) vs r (refusal-push us u ∙ h)

or_some : (x y z : Option Refusal) (r : Refusal) → (y ≡ Some r → z ≡ Some r) → option_or x y ≡ Some r → option_or x z ≡ Some r
or_some None y z r f h = f h
or_some (Some x) y z r f h = h

-- what is shown at closed pieces and an open one stays shown as the open one goes on
at-stays : (c : List ℕ) (cs : List (List ℕ)) (p s : List ℕ) (ds : List (List ℕ)) (q : List ℕ) (r : Refusal) → has_code p ≡ false → Open (p ++ s) ds q →
    shown_at (c ∷ cs) p ≡ Some r → shown_at ((c ∷ cs) ++ ds) q ≡ Some r
unfolding placed
at-stays c cs p s [] q r clean is h =
    ap (λ ws. shown_at ws q) (append-nil (c ∷ cs))
    ∙ or_some (front_shown (c ∷ [])) _ _ r (or_some (first_refusal (before (c ∷ cs))) _ _ r (late-closed c cs p s q [] r clean is)) h
at-stays c cs p s (d ∷ ds) q r clean is h =
    or_some (front_shown (c ∷ [])) _ _ r
    (λ both. ap (λ v. option_or v (late ((c ∷ cs) ++ d ∷ ds) q))
    (ap first_refusal (before-append c cs (d ∷ ds))
    ∙ verdict-grows (before (c ∷ cs)) (behind (c ∷ cs) d) (placed (span (c ∷ cs) 0 + length d + 3) ds) r
    (or_some (first_refusal (before (c ∷ cs))) _ _ r
    (λ e. early_refusal-refused (length (before (c ∷ cs))) (behind (c ∷ cs) d) r (late-closed c cs p s d (ds ++ q ∷ []) r clean is e)) both)))
    h

-- the pieces of a longer string
pub longer : (t s : List ℕ) (cs : List (List ℕ)) (p : List ℕ) (ds : List (List ℕ)) (q : List ℕ) → Open t cs p → Open (p ++ s) ds q → Open (t ++ s) (cs ++ ds) q
longer t s cs p ds q is more = pieces-more t s cs p is ∙ ap (λ qs. cs ++ qs) more ∙ sym (append_assoc cs ds (q ∷ []))

pub shown-stays : (t s : List ℕ) (r : Refusal) → refusal_shown false t ≡ Some r → refusal_shown false (t ++ s) ≡ Some r
unfolding placed refusal_behind
shown-stays t s r h = go (opens t)
  where
    front : (o : Option ℕ) → leading t ≡ o → option_or (option_map refused_leading o) None ≡ Some r → refusal_shown false (t ++ s) ≡ Some r
    front None is e = absurd (cc)
    front (Some at) is e =
        ap (λ o. option_or (option_map refused_leading o) (option_or (first_refusal (whole_units false (t ++ s))) (last_refusal (t ++ s)))) (leading-stays t s at is) ∙ e

    more : (cs : List (List ℕ)) (p : List ℕ) → Open t cs p → (ds : List (List ℕ)) × (q : List ℕ) × Open (p ++ s) ds q → refusal_shown false (t ++ s) ≡ Some r
    more [] p is (ds, q, goes) =
        front (leading t) refl (ap (λ ps. option_or (front_shown ps) None) is ∙ sym (shown-is t [] p is) ∙ h)
    more (c ∷ cs) p is (ds, q, goes) =
        shown-is (t ++ s) ((c ∷ cs) ++ ds) q (longer t s (c ∷ cs) p ds q is goes)
        ∙ at-stays c cs p s ds q r (open-clean t (c ∷ cs) p is) goes (sym (shown-is t (c ∷ cs) p is) ∙ h)

    go : (cs : List (List ℕ)) × (p : List ℕ) × Open t cs p → refusal_shown false (t ++ s) ≡ Some r
    go (cs, p, is) = more cs p is (opens (p ++ s))

-- units that were taken whole stay
pub whole-stays : (t s : List ℕ) → StartsWith (whole_units false (t ++ s)) (whole_units false t)
unfolding placed
whole-stays t s = go (opens t)
  where
    more : (cs : List (List ℕ)) (p : List ℕ) → Open t cs p → (ds : List (List ℕ)) × (q : List ℕ) × Open (p ++ s) ds q → StartsWith (whole_units false (t ++ s)) (whole_units false t)
    more [] p is (ds, q, goes) = ap (λ us. take (length us) (whole_units false (t ++ s))) (whole-is t [] p is) ∙ sym (whole-is t [] p is)
    more (c ∷ cs) p is (ds, q, goes) =
        ap (λ us. take (length us) (whole_units false (t ++ s))) (whole-is t (c ∷ cs) p is)
        ∙ ap (take (length (before (c ∷ cs)))) (whole-is (t ++ s) ((c ∷ cs) ++ ds) q (longer t s (c ∷ cs) p ds q is goes) ∙ before-append c cs ds)
        ∙ take-append_seam (before (c ∷ cs)) (placed (span (c ∷ cs) 0) ds)
        ∙ sym (whole-is t (c ∷ cs) p is)

    go : (cs : List (List ℕ)) × (p : List ℕ) × Open t cs p → StartsWith (whole_units false (t ++ s)) (whole_units false t)
    go (cs, p, is) = more cs p is (opens (p ++ s))
