-- What units more change of the refusal by the rules on a unit's bytes.
use Rattle.std.proofs.Common.{◌≡◌, ℕ, ◌+◌, ◌<◌, Bool, All, if◌then◌else◌, List, [], ◌∷◌, ◌++◌, length, Option, None, Some, refl, ap, sym, ◌∙◌, arith}
use Rattle.std.specs.Option.{option_map, option_or}
use Rattle.mv_rules.specs.declared.rule.Rule.{Rule}
use Rattle.mv_rules.specs.declared.refusal.Refusal.{Refusal}
use Rattle.mv_units.specs.Units.{NalUnit}
use Rattle.mv_units.specs.Rules.{unit_rule}
use Rattle.std.proofs.lemmas.List.Elements.{All-nil, All-cons}
use Rattle.mv_units.specs.Shown.{refused, unit_refusal, refusal_behind, first_refusal, front_refusal, last_refusal, refusal_shown, whole_units}
use Rattle.mv_units.proofs.Early.{refusal-rule}

pub or_assoc : (x y z : Option Refusal) → option_or (option_or x y) z ≡ option_or x (option_or y z)
or_assoc None y z = refl
or_assoc (Some r) y z = refl

refusal_behind-append : (n : ℕ) (us vs : List NalUnit) → refusal_behind n (us ++ vs) ≡ option_or (refusal_behind n us) (refusal_behind (n + length us) vs)
unfolding refusal_behind
refusal_behind-append n [] vs = let same : n ≡ n + 0 = omega arith in ap (λ k. refusal_behind k vs) same
refusal_behind-append n (u ∷ us) vs =
    let same : n + 1 + length us ≡ n + length (u ∷ us) = omega arith in
    ap (option_or (unit_refusal n u)) (refusal_behind-append (n + 1) us vs ∙ ap (λ k. option_or (refusal_behind (n + 1) us) (refusal_behind k vs)) same)
    ∙ sym (or_assoc (unit_refusal n u) (refusal_behind (n + 1) us) (refusal_behind (n + length (u ∷ us)) vs))

or_none : (x : Option Refusal) → option_or x None ≡ x
or_none None = refl
or_none (Some r) = refl

zero_more : (n : ℕ) → 0 + n ≡ n
zero_more n = omega arith

-- a unit more is refused only where no unit before it was
pub refusal-push : (us : List NalUnit) (u : NalUnit) → first_refusal (us ++ u ∷ []) ≡ option_or (first_refusal us) (unit_refusal (length us) u)
unfolding refusal_behind
refusal-push us u =
    refusal_behind-append 0 us (u ∷ [])
    ∙ ap (λ k. option_or (first_refusal us) (option_or (unit_refusal k u) None)) (zero_more (length us))
    ∙ ap (option_or (first_refusal us)) (or_none (unit_refusal (length us) u))

-- a refusal stays, whatever follows
pub refusal-stays : (us vs : List NalUnit) (r : Refusal) → first_refusal us ≡ Some r → first_refusal (us ++ vs) ≡ Some r
refusal-stays us vs r h = refusal_behind-append 0 us vs ∙ ap (λ v. option_or v (refusal_behind (0 + length us) vs)) h

-- a refusal has the number of its unit
pub refusal-number : (n : ℕ) (u : NalUnit) (o : Option Rule) (r : Refusal) → option_map (refused n u) o ≡ Some r → r.unit ≡ n
refusal-number n u o r h = go (refusal-rule (refused n u) o r h)
  where
    go : (x : Rule) × (o ≡ Some x) × (r ≡ refused n u x) → r.unit ≡ n
    go (x, is, same) = ap (λ (r : Refusal). r.unit) same

-- and one of some units has that of one of them
number_behind : (n : ℕ) (us : List NalUnit) (r : Refusal) → refusal_behind n us ≡ Some r → r.unit < n + length us
unfolding refusal_behind
number_behind n [] r h = absurd (cc)
number_behind n (u ∷ us) r h = go (unit_refusal n u) refl h (number_behind (n + 1) us r)
  where
    go : (o : Option Refusal) → unit_refusal n u ≡ o → option_or o (refusal_behind (n + 1) us) ≡ Some r → (refusal_behind (n + 1) us ≡ Some r → r.unit < n + 1 + length us) → r.unit < n + length (u ∷ us)
    go None is e rest = let more = rest e in omega arith
    go (Some x) is e rest = let same = refusal-number n u (unit_rule u.bytes) r (is ∙ e) in omega arith

pub refusal-within : (us : List NalUnit) (r : Refusal) → first_refusal us ≡ Some r → r.unit < length us
refusal-within us r h = let more = number_behind 0 us r h in omega arith

-- units of which none is refused break no rule on their bytes
none-map : (f : Rule → Refusal) (o : Option Rule) → option_map f o ≡ None → o ≡ None
none-map f None h = refl
none-map f (Some r) h = absurd (cc)

clean_behind : (n : ℕ) (us : List NalUnit) → refusal_behind n us ≡ None → All (λ (u : NalUnit). unit_rule u.bytes ≡ None) us
unfolding refusal_behind
clean_behind n [] h = All-nil (λ (u : NalUnit). unit_rule u.bytes ≡ None)
clean_behind n (u ∷ us) h = go (unit_refusal n u) refl h (clean_behind (n + 1) us)
  where
    go : (o : Option Refusal) → unit_refusal n u ≡ o → option_or o (refusal_behind (n + 1) us) ≡ None → (refusal_behind (n + 1) us ≡ None → All (λ (u : NalUnit). unit_rule u.bytes ≡ None) us) → All (λ (u : NalUnit). unit_rule u.bytes ≡ None) (u ∷ us)
    go None is e rest = All-cons (λ (u : NalUnit). unit_rule u.bytes ≡ None) u us (none-map (refused n u) (unit_rule u.bytes) is) (rest e)
    go (Some x) is e rest = absurd (cc)

pub shown-clean : (ended : Bool) (s : List ℕ) → refusal_shown ended s ≡ None → All (λ (u : NalUnit). unit_rule u.bytes ≡ None) (whole_units ended s)
shown-clean ended s h = clean_behind 0 (whole_units ended s) (go (front_refusal s) (first_refusal (whole_units ended s)) h)
  where
    go : (x y : Option Refusal) → option_or x (option_or y (if ended then None else last_refusal s)) ≡ None → y ≡ None
    go None None e = refl
    go None (Some r) e = absurd (cc)
    go (Some r) y e = absurd (cc)
