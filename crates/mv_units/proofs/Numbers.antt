-- The number of the unit for which bytes show a refusal, where those before the last byte, or before the end, show none.
use Rattle.std.proofs.Common.{◌≡◌, ℕ, ◌≤◌, ◌⊎◌, inl, inr, Bool, true, false, ◌||◌, List, [], ◌∷◌, ◌++◌, length, Option, None, Some, refl, ap, sym, ◌∙◌, arith, append_assoc, append-nil}
use Rattle.std.specs.Option.{option_map, option_or}
use Rattle.mv_rules.specs.declared.rule.Rule.{Rule}
use Rattle.mv_rules.specs.declared.refusal.Refusal.{Refusal}
use Rattle.mv_units.specs.Units.{is_code, has_code, lead, pieces, placed, trimmed, units}
use Rattle.mv_units.specs.Rules.{early_rule, unit_rule}
use Rattle.mv_units.specs.Shown.{refused, refused_leading, early_refusal, refusal_behind, first_refusal, front_refusal, refusal_shown, whole_units}
use Rattle.mv_units.proofs.Early.{early-not_short, refusal-rule}
use Rattle.mv_units.proofs.Refusals.{refusal-push, refusal-number}
use Rattle.mv_units.proofs.Longer.{span}
use Rattle.mv_units.proofs.Pieces.{pieces-at, pieces-byte}
use Rattle.mv_units.proofs.Shown.{Open, opens, open-clean, before, behind, front_shown, late, shown-is, units-none, units-end, whole-is}
use Rattle.mv_units.proofs.Shows.{before-append, longer, shown-stays, whole-stays}
use Rattle.mv_units.proofs.Starts.{starts-length}

-- one byte leaves a string without a start code one piece, or makes it one piece and an empty one
abbrev OneMore : List (List ℕ) → Type 0
OneMore ps = ((x : List ℕ) × (ps ≡ x ∷ [])) ⊎ ((d : List ℕ) × (ps ≡ d ∷ [] ∷ []))

lead-one : (a : ℕ) (ps : List (List ℕ)) → OneMore ps → OneMore (lead a ps)
lead-one a ps (inl (x, is)) = inl (a ∷ x, ap (lead a) is)
lead-one a ps (inr (d, is)) = inr (a ∷ d, ap (lead a) is)

clean-parts : (a b : Bool) → (a || b) ≡ false → (a ≡ false) × (b ≡ false)
clean-parts true b e = absurd (cc)
clean-parts false b e = (refl, e)

one-more : (p : List ℕ) (b : ℕ) → has_code p ≡ false → OneMore (pieces (p ++ b ∷ []))
unfolding pieces has_code
one-more [] b clean = inl (b ∷ [], refl)
one-more (a ∷ []) b clean = inl (a ∷ b ∷ [], refl)
one-more (a ∷ c ∷ []) b clean = go (is_code a c b) refl
  where
    go : (k : Bool) → is_code a c b ≡ k → OneMore (pieces (a ∷ c ∷ b ∷ []))
    go true is = inr ([], pieces-at a c b [] is)
    go false is = inl (a ∷ c ∷ b ∷ [], pieces-byte a c b [] is)
one-more (a ∷ c ∷ d ∷ p) b clean = go (clean-parts (is_code a c d) (has_code (c ∷ d ∷ p)) clean) (one-more (c ∷ d ∷ p) b)
  where
    go : (is_code a c d ≡ false) × (has_code (c ∷ d ∷ p) ≡ false) → (has_code (c ∷ d ∷ p) ≡ false → OneMore (pieces ((c ∷ d ∷ p) ++ b ∷ []))) → OneMore (pieces (a ∷ c ∷ d ∷ (p ++ b ∷ [])))
    go (is, rest) more = at (lead-one a (pieces (c ∷ d ∷ (p ++ b ∷ []))) (more rest))
      where
        at : OneMore (lead a (pieces (c ∷ d ∷ (p ++ b ∷ [])))) → OneMore (pieces (a ∷ c ∷ d ∷ (p ++ b ∷ [])))
        at (inl (x, e)) = inl (x, pieces-byte a c d (p ++ b ∷ []) is ∙ e)
        at (inr (x, e)) = inr (x, pieces-byte a c d (p ++ b ∷ []) is ∙ e)

-- a refusal of a leading byte has the number 0
leading-number : (o : Option ℕ) (r : Refusal) → option_map refused_leading o ≡ Some r → r.unit ≡ 0
leading-number None r e = absurd (cc)
leading-number (Some at) r e = let same : refused_leading at ≡ r = cc in ap (λ (r : Refusal). r.unit) (sym same)

none_both : (x y : Option Refusal) → option_or x y ≡ None → (x ≡ None) × (y ≡ None)
none_both None y e = (refl, e)
none_both (Some r) y e = absurd (cc)

-- of two that may refuse, the first doesn't
or_second : (x y : Option Refusal) (r : Refusal) → x ≡ None → option_or x y ≡ Some r → y ≡ Some r
or_second None y r none e = e
or_second (Some q) y r none e = absurd (cc)

or_number : (x y : Option Refusal) (r : Refusal) (n : ℕ) → (x ≡ Some r → r.unit ≡ n) → (y ≡ Some r → r.unit ≡ n) → option_or x y ≡ Some r → r.unit ≡ n
or_number None y r n first second e = second e
or_number (Some q) y r n first second e = first e

-- a unit with no bytes shows nothing
empty-late : (n at : ℕ) (r : Refusal) → early_refusal n (record { place = at; bytes = trimmed [] }) ≡ Some r → ⊥
unfolding trimmed
empty-late n at r e = go (refusal-rule (refused n (record { place = at; bytes = [] })) (early_rule []) r e)
  where
    go : (x : Rule) × (early_rule [] ≡ Some x) × (r ≡ refused n (record { place = at; bytes = [] }) x) → ⊥
    go (x, is, same) = let long : true ≡ false = early-not_short [] x is in absurd (cc)

-- no code came yet
first-number : (t : List ℕ) (b : ℕ) (p : List ℕ) (r : Refusal) → Open t [] p → OneMore (pieces (p ++ b ∷ [])) → refusal_shown false (t ++ b ∷ []) ≡ Some r → r.unit ≡ 0
unfolding placed refusal_behind
first-number t b p r is (inl (x, goes)) h =
    or_number (front_shown (x ∷ [])) None r 0 (leading-number _ r) (λ e. absurd (cc))
    (sym (shown-is (t ++ b ∷ []) [] x (longer t (b ∷ []) [] p [] x is goes)) ∙ h)
first-number t b p r is (inr (d, goes)) h =
    or_number (front_shown (d ∷ [])) (late (d ∷ []) []) r 0 (leading-number _ r) (refusal-number 0 (behind (d ∷ []) []) (early_rule (trimmed [])) r)
    (sym (shown-is (t ++ b ∷ []) (d ∷ []) [] (longer t (b ∷ []) [] p (d ∷ []) [] is goes)) ∙ h)

-- a code came before
code-number : (t : List ℕ) (b : ℕ) (c : List ℕ) (cs : List (List ℕ)) (p : List ℕ) (r : Refusal) → Open t (c ∷ cs) p → OneMore (pieces (p ++ b ∷ [])) → refusal_shown false t ≡ None → refusal_shown false (t ++ b ∷ []) ≡ Some r →
    r.unit ≡ length (before (c ∷ cs))
unfolding placed
code-number t b c cs p r is (inl (x, goes)) quiet h =
    let front = none_both (front_shown (c ∷ [])) _ (sym (shown-is t (c ∷ cs) p is) ∙ quiet) in
    let units = none_both (first_refusal (before (c ∷ cs))) _ front.1 in
    let here : Open (t ++ b ∷ []) (c ∷ cs) x = longer t (b ∷ []) (c ∷ cs) p [] x is goes ∙ ap (λ ws. ws ++ x ∷ []) (append-nil (c ∷ cs)) in
    let shown = or_second (front_shown (c ∷ [])) _ r front.0 (sym (shown-is (t ++ b ∷ []) (c ∷ cs) x here) ∙ h) in
    refusal-number (length (before (c ∷ cs))) (behind (c ∷ cs) x) (early_rule (trimmed x)) r (or_second (first_refusal (before (c ∷ cs))) _ r units.0 shown)
code-number t b c cs p r is (inr (d, goes)) quiet h =
    let front = none_both (front_shown (c ∷ [])) _ (sym (shown-is t (c ∷ cs) p is) ∙ quiet) in
    let units = none_both (first_refusal (before (c ∷ cs))) _ front.1 in
    let us = before (c ∷ cs) in
    let u = behind (c ∷ cs) d in
    let shown = or_second (front_shown (c ∷ [])) _ r front.0 (sym (shown-is (t ++ b ∷ []) ((c ∷ cs) ++ d ∷ []) [] (longer t (b ∷ []) (c ∷ cs) p (d ∷ []) [] is goes)) ∙ h) in
    or_number (first_refusal (before ((c ∷ cs) ++ d ∷ []))) (late ((c ∷ cs) ++ d ∷ []) []) r (length us)
    (λ e. refusal-number (length us) u (unit_rule u.bytes) r
    (or_second (first_refusal us) _ r units.0 (sym (refusal-push us u) ∙ ap (first_refusal) (sym (before-append c cs (d ∷ []))) ∙ e)))
    (λ e. absurd (empty-late (length (before ((c ∷ cs) ++ d ∷ []))) (span ((c ∷ cs) ++ d ∷ []) 0) r e))
    shown

-- the unit is the one behind those that were taken whole before the byte that shows it
pub byte-number : (s : List ℕ) (b : ℕ) (r : Refusal) → refusal_shown false s ≡ None → refusal_shown false (s ++ b ∷ []) ≡ Some r → r.unit ≡ length (whole_units false s)
unfolding placed
byte-number s b r quiet h = go (opens s)
  where
    more : (cs : List (List ℕ)) (p : List ℕ) → Open s cs p → r.unit ≡ length (whole_units false s)
    more [] p is = first-number s b p r is (one-more p b (open-clean s [] p is)) h ∙ sym (ap length (whole-is s [] p is))
    more (c ∷ cs) p is = code-number s b c cs p r is (one-more p b (open-clean s (c ∷ cs) p is)) quiet h ∙ sym (ap length (whole-is s (c ∷ cs) p is))

    go : (cs : List (List ℕ)) × (p : List ℕ) × Open s cs p → r.unit ≡ length (whole_units false s)
    go (cs, p, is) = more cs p is

-- and so where the end shows it
or_none : (x : Option Refusal) → option_or x None ≡ x
or_none None = refl
or_none (Some r) = refl

pub end-number : (s : List ℕ) (r : Refusal) → refusal_shown false s ≡ None → refusal_shown true s ≡ Some r → r.unit ≡ length (whole_units false s)
unfolding placed refusal_behind
end-number s r quiet h = go (opens s)
  where
    front : front_refusal s ≡ None
    front = (none_both (front_refusal s) _ quiet).0

    whole : first_refusal (whole_units false s) ≡ None
    whole = (none_both (first_refusal (whole_units false s)) _ (none_both (front_refusal s) _ quiet).1).0

    all : first_refusal (units s) ≡ Some r
    all = sym (or_none (first_refusal (units s))) ∙ or_second (front_refusal s) _ r front h

    more : (cs : List (List ℕ)) (p : List ℕ) → Open s cs p → r.unit ≡ length (whole_units false s)
    more [] p is = absurd (let none : None ≡ Some r = ap (first_refusal) (sym (units-none s p is)) ∙ all in cc)
    more (c ∷ cs) p is =
        let us = before (c ∷ cs) in
        let u = behind (c ∷ cs) p in
        let done : first_refusal us ≡ None = ap (first_refusal) (sym (whole-is s (c ∷ cs) p is)) ∙ whole in
        refusal-number (length us) u (unit_rule u.bytes) r
        (or_second (first_refusal us) _ r done (sym (refusal-push us u) ∙ ap (first_refusal) (sym (units-end s c cs p is)) ∙ all))
        ∙ sym (ap length (whole-is s (c ∷ cs) p is))

    go : (cs : List (List ℕ)) × (p : List ℕ) × Open s cs p → r.unit ≡ length (whole_units false s)
    go (cs, p, is) = more cs p is

-- bytes that show nothing: whatever more of them show is of a unit behind those that were taken whole
pub later-number : (t s : List ℕ) (r : Refusal) → refusal_shown false t ≡ None → refusal_shown false (t ++ s) ≡ Some r → length (whole_units false t) ≤ r.unit
later-number t [] r quiet h = absurd (let none : None ≡ Some r = sym quiet ∙ ap (refusal_shown false) (sym (append-nil t)) ∙ h in cc)
later-number t (b ∷ s) r quiet h = go (refusal_shown false (t ++ b ∷ [])) refl (later-number (t ++ b ∷ []) s r)
  where
    parts : (t ++ b ∷ []) ++ s ≡ t ++ b ∷ s
    parts = append_assoc t (b ∷ []) s

    go : (o : Option Refusal) → refusal_shown false (t ++ b ∷ []) ≡ o → (refusal_shown false (t ++ b ∷ []) ≡ None → refusal_shown false ((t ++ b ∷ []) ++ s) ≡ Some r → length (whole_units false (t ++ b ∷ [])) ≤ r.unit) → length (whole_units false t) ≤ r.unit
    go None is more =
        let low = more is (ap (refusal_shown false) parts ∙ h) in
        let grows = starts-length (whole_units false (t ++ b ∷ [])) (whole_units false t) (whole-stays t (b ∷ [])) in
        omega arith
    go (Some x) is more =
        let same : Some x ≡ Some r = sym (shown-stays (t ++ b ∷ []) s x is) ∙ ap (refusal_shown false) parts ∙ h in
        let equal : x ≡ r = cc in
        let unit = byte-number t b x quiet is in
        let number : x.unit ≡ r.unit = ap (λ (r : Refusal). r.unit) equal in
        omega arith
