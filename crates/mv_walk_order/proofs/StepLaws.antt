-- Sets one behind the other: what a picture makes of each, and which is the least that refuses it.
use Rattle.std.proofs.Common.{◌≡◌, ◌⊎◌, inl, inr, ℕ, zero, suc, ◌+◌, ◌<◌, ◌≤◌, Bool, true, false, cond, ◌&&◌, List, length, Some, None, refl, ap, sym, ◌∙◌, subst, arith}
use Rattle.std.specs.Prelude.{ℤ, slice_set, Result, Ok, Err, ⊤}
use Rattle.mv_rules.specs.declared.rule.Rule.{Rule}
use Rattle.std.specs.List.{find, range_with_len}
use Rattle.std.proofs.lemmas.Bool.{cases_lt}
use Rattle.std.proofs.lemmas.List.{get_or-set_other, get_or-set_same, length-set}
use Rattle.mv_dpb.specs.OrderValue.{OrderValue}
use Rattle.mv_dpb.specs.SetOrder.{begun, comes_late, order_of, with_unit}
use Rattle.mv_walk_order.specs.OrderValues.{SetValue}
use Rattle.mv_walk_order.specs.OrderSteps.{begun_upto, counted_in, counted_upto, is_late_in, late_set, puts_out, set_of}

-- ---- The least number that passes a test

pub none-below : (p : ℕ → Bool) (a n : ℕ) → ((i : ℕ) → a ≤ i → i < a + n → p i ≡ false) → find p (range_with_len a n) ≡ None
none-below p a zero h = refl
none-below p a (suc n) h =
    ap (λ b. cond b (Some a) (find p (range_with_len (a + 1) n))) (h a (omega arith) (omega arith))
    ∙ none-below p (a + 1) n (λ i le lt. h i (omega (arith, le)) (omega (arith, lt)))

pub least-below : (p : ℕ → Bool) (a n k : ℕ) → a ≤ k → k < a + n → p k ≡ true → ((i : ℕ) → a ≤ i → i < k → p i ≡ false) → find p (range_with_len a n) ≡ Some k
least-below p a zero k le lt here before = absurd (omega (arith, le, lt))
least-below p a (suc n) k le lt here before =
    go (p a) refl
    (λ other. least-below p (a + 1) n k (omega (arith, other, le)) (omega (arith, lt)) here (λ i low less. before i (omega (arith, low)) less))
  where
    go : (b : Bool) → p a ≡ b → ((a ≡ k → ⊥) → find p (range_with_len (a + 1) n) ≡ Some k) → cond b (Some a) (find p (range_with_len (a + 1) n)) ≡ Some k
    go true e rest =
        let first : (a < k → ⊥) = λ less. let wrong : true ≡ false = sym e ∙ before a (omega arith) less in cc in
        ap Some (let same : a ≡ k = omega (arith, first, le) in same)
    go false e rest = rest (λ same. let wrong : true ≡ false = sym here ∙ ap p (sym same) ∙ e in cc)

last_or_before : (o n : ℕ) → o < suc n → (o ≡ n) ⊎ (o < n)
last_or_before o n lt = elim (cases_lt o n) [
  | inl less ↦ inr less
  | inr le ↦ inl (omega (arith, le, lt))
]

-- ---- Counting for one set after the other

pub counted-other : (sets : List SetValue) (layer au : ℕ) (count : ℤ) (n o : ℕ) (check : List OrderValue) → (o ≡ n → ⊥) →
    order_of (counted_in sets layer au count n check) o ≡ order_of check o
counted-other sets layer au count n o check apart = go (puts_out sets n layer)
  where
    go : (b : Bool) → order_of (cond b (slice_set check n (with_unit (order_of check n) au count)) check) o ≡ order_of check o
    go true = get_or-set_other check n o (with_unit (order_of check n) au count) (begun 0) apart
    go false = refl

pub length-counted : (sets : List SetValue) (layer au : ℕ) (count : ℤ) (n : ℕ) (check : List OrderValue) → length (counted_in sets layer au count n check) ≡ length check
length-counted sets layer au count n check = go (puts_out sets n layer)
  where
    go : (b : Bool) → length (cond b (slice_set check n (with_unit (order_of check n) au count)) check) ≡ length check
    go true = length-set check n (with_unit (order_of check n) au count)
    go false = refl

pub length-upto : (sets : List SetValue) (layer au : ℕ) (count : ℤ) (n : ℕ) (check : List OrderValue) → length (counted_upto sets layer au count n check) ≡ length check
length-upto sets layer au count zero check = refl
length-upto sets layer au count (suc n) check =
    length-counted sets layer au count n (counted_upto sets layer au count n check) ∙ length-upto sets layer au count n check

-- sets that weren't reached stay
pub upto-above : (sets : List SetValue) (layer au : ℕ) (count : ℤ) (n o : ℕ) (check : List OrderValue) → n ≤ o →
    order_of (counted_upto sets layer au count n check) o ≡ order_of check o
upto-above sets layer au count zero o check le = refl
upto-above sets layer au count (suc n) o check le =
    counted-other sets layer au count n o (counted_upto sets layer au count n check) (λ e. omega (arith, e, le))
    ∙ upto-above sets layer au count n o check (omega (arith, le))

-- what a set has counted
pub counted-here : (sets : List SetValue) (layer au : ℕ) (count : ℤ) (o : ℕ) (check : List OrderValue) → o < length check →
    order_of (counted_in sets layer au count o check) o ≡ cond (puts_out sets o layer) (with_unit (order_of check o) au count) (order_of check o)
counted-here sets layer au count o check within = go (puts_out sets o layer)
  where
    go : (b : Bool) → order_of (cond b (slice_set check o (with_unit (order_of check o) au count)) check) o ≡ cond b (with_unit (order_of check o) au count) (order_of check o)
    go true = get_or-set_same check o (with_unit (order_of check o) au count) (begun 0) within
    go false = refl

pub upto-below : (sets : List SetValue) (layer au : ℕ) (count : ℤ) (n o : ℕ) (check : List OrderValue) → o < n → o < length check →
    order_of (counted_upto sets layer au count n check) o ≡ cond (puts_out sets o layer) (with_unit (order_of check o) au count) (order_of check o)
upto-below sets layer au count zero o check lt within = absurd (omega (arith, lt))
upto-below sets layer au count (suc n) o check lt within = elim (last_or_before o n lt) [
  | inl e ↦ subst (λ m. order_of (counted_in sets layer au count m (counted_upto sets layer au count m check)) o ≡ cond (puts_out sets o layer) (with_unit (order_of check o) au count) (order_of check o)) e
      (counted-here sets layer au count o (counted_upto sets layer au count o check) (let same = length-upto sets layer au count o check in omega (arith, same, within))
      ∙ ap (λ x. cond (puts_out sets o layer) (with_unit x au count) x) (upto-above sets layer au count o o check (omega arith)))
  | inr less ↦ counted-other sets layer au count n o (counted_upto sets layer au count n check) (λ e. omega (arith, e, less)) ∙ upto-below sets layer au count n o check less within
]

-- a set is late by what was kept before any was counted
pub late-upto : (sets : List SetValue) (layer au : ℕ) (count : ℤ) (n : ℕ) (check : List OrderValue) →
    is_late_in sets (counted_upto sets layer au count n check) layer count n ≡ is_late_in sets check layer count n
late-upto sets layer au count n check = ap (λ x. puts_out sets n layer && comes_late x count) (upto-above sets layer au count n n check (omega arith))

-- ---- Beginning one set after the other

pub length-begun : (sets : List SetValue) (n : ℕ) (check : List OrderValue) → length (begun_upto sets n check) ≡ length check
length-begun sets zero check = refl
length-begun sets (suc n) check = length-set (begun_upto sets n check) n (begun (set_of sets n).reorder) ∙ length-begun sets n check

pub begun-below : (sets : List SetValue) (n o : ℕ) (check : List OrderValue) → o < n → o < length check → order_of (begun_upto sets n check) o ≡ begun (set_of sets o).reorder
begun-below sets zero o check lt within = absurd (omega (arith, lt))
begun-below sets (suc n) o check lt within = elim (last_or_before o n lt) [
  | inl e ↦ subst (λ m. order_of (slice_set (begun_upto sets m check) m (begun (set_of sets m).reorder)) o ≡ begun (set_of sets o).reorder) e
      (get_or-set_same (begun_upto sets o check) o (begun (set_of sets o).reorder) (begun 0) (let same = length-begun sets o check in omega (arith, same, within)))
  | inr less ↦ get_or-set_other (begun_upto sets n check) n o (begun (set_of sets n).reorder) (begun 0) (λ e. omega (arith, e, less)) ∙ begun-below sets n o check less within
]

-- ---- What is answered, as the loop finds it

abbrev told : Bool → ℕ → Result ⊤ Rule
told b k = cond b (Err (Rule.Reorder k)) (Ok tt)

pub err-is : (b : Bool) (k : ℕ) (rule : Rule) → told b k ≡ Err rule → (b ≡ true) × (Rule.Reorder k ≡ rule)
err-is true k rule h = (refl, let same : Err (Rule.Reorder k) ≡ Err rule = h in cc)
err-is false k rule h = absurd (cc)

ok-is : (b : Bool) (k : ℕ) (x : ⊤) → told b k ≡ Ok x → b ≡ false
ok-is true k x h = absurd (cc)
ok-is false k x h = refl

module _ (sets : List SetValue) (check : List OrderValue) (layer au : ℕ) (count : ℤ) (now new : List OrderValue) (k : ℕ) where
  -- before set k none was late, and each was counted
  abbrev pub IsReached : Type 0
  IsReached = (now ≡ counted_upto sets layer au count k check) × ((o : ℕ) → o < k → is_late_in sets check layer count o ≡ false)

  late-now : IsReached → is_late_in sets now layer count k ≡ is_late_in sets check layer count k
  late-now h = ap (λ x. is_late_in sets x layer count k) h.0 ∙ late-upto sets layer au count k check

  pub refused : IsReached → k < length sets → (rule : Rule) → told (is_late_in sets now layer count k) k ≡ Err rule →
      late_set sets check layer count (length sets) ≡ Some k
  refused h lt rule e =
      let here : is_late_in sets check layer count k ≡ true = sym (late-now h) ∙ (err-is (is_late_in sets now layer count k) k rule e).0 in
      least-below (is_late_in sets check layer count) 0 (length sets) k (omega arith) (omega (arith, lt)) here (λ i low less. h.1 i less)

  pub taken : IsReached → (x : ⊤) → told (is_late_in sets now layer count k) k ≡ Ok x → new ≡ counted_in sets layer au count k now →
      (new ≡ counted_upto sets layer au count (k + 1) check) × ((o : ℕ) → o < k + 1 → is_late_in sets check layer count o ≡ false)
  taken h x e counted =
      let here : is_late_in sets check layer count k ≡ false = sym (late-now h) ∙ ok-is (is_late_in sets now layer count k) k x e in (
        counted ∙ ap (counted_in sets layer au count k) h.0 ∙ ap (λ n. counted_upto sets layer au count n check) (let next : suc k ≡ k + 1 = omega arith in next),
        λ o lt. elim (last_or_before o k (omega (arith, lt))) [
          | inl same ↦ ap (is_late_in sets check layer count) same ∙ here
          | inr less ↦ h.1 o less
        ],
      )

  pub none : IsReached → k ≡ length sets → late_set sets check layer count (length sets) ≡ None
  none h all = none-below (is_late_in sets check layer count) 0 (length sets) (λ i low less. h.1 i (omega (arith, all, less)))
