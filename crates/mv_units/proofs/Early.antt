-- The rules that a unit's bytes show before its end: what breaks them goes on breaking them.
use Rattle.std.proofs.Common.{◌≡◌, inl, inr, ℕ, zero, suc, ◌<◌, Bool, true, false, cond, ◌==◌, ◌&&◌, ◌||◌, List, [], ◌∷◌, ◌++◌, length, take, Option, None, Some, refl, ap, sym, ◌∙◌, arith, length-append}
use Rattle.std.proofs.lemmas.Bool.{or_parts, or_from, ltb-true, lt-ltb, le-ltb, true≢false}
use Rattle.std.proofs.lemmas.List.{take-append-le}
use Rattle.std.specs.Option.{option_map}
use Rattle.mv_rules.specs.declared.rule.Rule.{Rule}
use Rattle.mv_rules.specs.declared.refusal.Refusal.{Refusal}
use Rattle.mv_units.specs.Rules.{longest_unit, short_unit, above_three, begins_emulation, has_emulation, emulation, long_unit, early_rule, unit_rule}
use Rattle.mv_units.specs.Units.{NalUnit}
use Rattle.mv_units.specs.Shown.{IsOneOf, early_rules, refused, unit_refusal, early_refusal}

-- bytes that may stand nowhere, with more behind them
above-more : (s w : List ℕ) → above_three (s ++ w) ≡ false → above_three s ≡ false
above-more [] w h = refl
above-more (d ∷ s) w h = h

tail_false : (x y z v w : Bool) → (w ≡ false → v ≡ false) → (x && y && (z || w)) ≡ false → (x && y && (z || v)) ≡ false
tail_false false y z v w f h = refl
tail_false true false z v w f h = refl
tail_false true true true v w f h = h
tail_false true true false v w f h = f h

within : (x v w : Bool) → (w ≡ false → v ≡ false) → (x && w) ≡ false → (x && v) ≡ false
within false v w f h = refl
within true v w f h = f h

or_within : (x v w : Bool) → (w ≡ false → v ≡ false) → (x || w) ≡ false → (x || v) ≡ false
or_within true v w f h = h
or_within false v w f h = f h

begins-more : (s w : List ℕ) → begins_emulation (s ++ w) ≡ false → begins_emulation s ≡ false
begins-more [] w h = refl
begins-more (a ∷ []) w h = refl
begins-more (a ∷ b ∷ []) w h = refl
begins-more (a ∷ b ∷ c ∷ s) w h =
    within ((a == 0) && (b == 0)) _ _
    (or_within ((c == 0) || (c == 2)) _ _ (within (c == 3) _ _ (above-more s w)))
    h

pub has_emulation-front : (s w : List ℕ) → has_emulation (s ++ w) ≡ false → has_emulation s ≡ false
unfolding has_emulation
has_emulation-front [] w h = refl
has_emulation-front (a ∷ s) w h =
    let parts = or_parts (begins_emulation (a ∷ (s ++ w))) (has_emulation (s ++ w)) h in
    or_from _ _ (begins-more (a ∷ s) w parts.0) (has_emulation-front s w parts.1)

-- the first bytes of a longer string begin with those of a shorter
take-more : (n : ℕ) (s w : List ℕ) → (v : List ℕ) × (take n (s ++ w) ≡ take n s ++ v)
take-more zero s w = ([], refl)
take-more (suc n) [] w = (take (suc n) w, refl)
take-more (suc n) (a ∷ s) w = go (take-more n s w)
  where
    go : (v : List ℕ) × (take n (s ++ w) ≡ take n s ++ v) → (v : List ℕ) × (a ∷ take n (s ++ w) ≡ a ∷ (take n s ++ v))
    go (v, is) = (v, ap (λ r. a ∷ r) is)

pub emulation-more : (x y : List ℕ) → emulation x ≡ true → emulation (x ++ y) ≡ true
emulation-more x y h = go (emulation (x ++ y)) refl (take-more longest_unit x y)
  where
    go : (t : Bool) → emulation (x ++ y) ≡ t → (v : List ℕ) × (take longest_unit (x ++ y) ≡ take longest_unit x ++ v) → t ≡ true
    go true is m = refl
    go false is (v, m) =
        let no : emulation x ≡ false = has_emulation-front (take longest_unit x) v (ap has_emulation (sym m) ∙ is) in
        absurd (true≢false (sym h ∙ no))

pub long-more : (x y : List ℕ) → long_unit x ≡ true → long_unit (x ++ y) ≡ true
long-more x y h =
    let low : longest_unit < length x = ltb-true longest_unit (length x) h in
    lt-ltb longest_unit (length (x ++ y)) (omega (arith, length-append x y))

-- once there are too many bytes, more change nothing of the first
pub emulation-long : (x y : List ℕ) → long_unit x ≡ true → emulation (x ++ y) ≡ emulation x
emulation-long x y h =
    let low : longest_unit < length x = ltb-true longest_unit (length x) h in
    ap has_emulation (take-append-le longest_unit x y (omega arith))

-- a unit with such bytes, or with too many, is no short one
short-two : (a b : ℕ) (s : List ℕ) → short_unit (a ∷ b ∷ s) ≡ false
short-two a b s = le-ltb (length (a ∷ b ∷ s)) 2 (omega arith)

pub emulation-not_short : (x : List ℕ) → emulation x ≡ true → short_unit x ≡ false
unfolding has_emulation
emulation-not_short [] h = absurd (true≢false (sym h))
emulation-not_short (a ∷ []) h = absurd (true≢false (sym h))
emulation-not_short (a ∷ b ∷ s) h = short-two a b s

pub long-not_short : (x : List ℕ) → long_unit x ≡ true → short_unit x ≡ false
long-not_short x h =
    let low : longest_unit < length x = ltb-true longest_unit (length x) h in
    le-ltb (length x) 2 (omega arith)

-- the rules on a unit's bytes, behind the rule on short ones
pub unit_rule-is : (x : List ℕ) → short_unit x ≡ false → unit_rule x ≡ early_rule x
unit_rule-is x h = ap (λ t. cond t (Some Rule.Short) (early_rule x)) h

-- what is refused early isn't short
pub early-not_short : (x : List ℕ) (r : Rule) → early_rule x ≡ Some r → short_unit x ≡ false
early-not_short x r h = go (emulation x) (long_unit x) refl refl h
  where
    go : (e l : Bool) → emulation x ≡ e → long_unit x ≡ l → cond e (Some Rule.Emulation) (cond l (Some Rule.Long) None) ≡ Some r → short_unit x ≡ false
    go true l is il h = emulation-not_short x is
    go false true is il h = long-not_short x il
    go false false is il h = absurd (cc)

-- which rules they are
pub early-is : (x : List ℕ) (r : Rule) → early_rule x ≡ Some r → IsOneOf early_rules r
early-is x r h = go (emulation x) (long_unit x) h
  where
    go : (e l : Bool) → cond e (Some Rule.Emulation) (cond l (Some Rule.Long) None) ≡ Some r → IsOneOf early_rules r
    go true l h = let same : Rule.Emulation ≡ r = cc in inr (inl (sym same))
    go false true h = let same : Rule.Long ≡ r = cc in inr (inr (inl (sym same)))
    go false false h = absurd (cc)

-- a unit refused early is refused so with more bytes
pub early-more : (x y : List ℕ) (r : Rule) → early_rule x ≡ Some r → early_rule (x ++ y) ≡ Some r
early-more x y r h = go (emulation x) (long_unit x) refl refl h
  where
    go : (e l : Bool) → emulation x ≡ e → long_unit x ≡ l → cond e (Some Rule.Emulation) (cond l (Some Rule.Long) None) ≡ Some r → early_rule (x ++ y) ≡ Some r
    go true l is il h = ap (λ e. cond e (Some Rule.Emulation) (cond (long_unit (x ++ y)) (Some Rule.Long) None)) (emulation-more x y is) ∙ h
    go false true is il h =
        ap (λ e. cond e (Some Rule.Emulation) (cond (long_unit (x ++ y)) (Some Rule.Long) None)) (emulation-long x y il ∙ is)
        ∙ ap (λ l. cond l (Some Rule.Long) None) (long-more x y il)
        ∙ h
    go false false is il h = absurd (cc)

-- a unit refused early is refused so by all rules on its bytes
pub early-refused : (x : List ℕ) (r : Rule) → early_rule x ≡ Some r → unit_rule x ≡ Some r
early-refused x r h = unit_rule-is x (early-not_short x r h) ∙ h

-- the same of refusals
pub refusal-rule : (f : Rule → Refusal) (o : Option Rule) (r : Refusal) → option_map f o ≡ Some r → (x : Rule) × (o ≡ Some x) × (r ≡ f x)
refusal-rule f None r h = absurd (cc)
refusal-rule f (Some x) r h = let same : f x ≡ r = cc in (x, refl, sym same)

pub early_refusal-more : (n place : ℕ) (x y : List ℕ) (r : Refusal) → early_refusal n (record { place = place; bytes = x }) ≡ Some r → early_refusal n (record { place = place; bytes = x ++ y }) ≡ Some r
early_refusal-more n place x y r h = go (refusal-rule (refused n u) (early_rule x) r h)
  where
    u : NalUnit
    u = record { place = place; bytes = x }

    go : (z : Rule) × (early_rule x ≡ Some z) × (r ≡ refused n u z) → option_map (refused n u) (early_rule (x ++ y)) ≡ Some r
    go (z, is, same) = ap (option_map (refused n u)) (early-more x y z is) ∙ ap Some (sym same)

pub early_refusal-refused : (n : ℕ) (u : NalUnit) (r : Refusal) → early_refusal n u ≡ Some r → unit_refusal n u ≡ Some r
early_refusal-refused n u r h = go (refusal-rule (refused n u) (early_rule u.bytes) r h)
  where
    go : (z : Rule) × (early_rule u.bytes ≡ Some z) × (r ≡ refused n u z) → option_map (refused n u) (unit_rule u.bytes) ≡ Some r
    go (z, is, same) = ap (option_map (refused n u)) (early-refused u.bytes z is) ∙ ap Some (sym same)
