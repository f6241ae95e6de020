-- The closure of a layer is the least set with it and with the direct reference layers of each of its members.
use Rattle.std.proofs.Common.{◌≡◌, ℕ, zero, suc, ◌+◌, ◌<◌, ◌≤◌, nat_eq, Bool, true, false, ◌&&◌, ◌||◌, ◌⊎◌, inl, inr, List, refl, sym, ◌∙◌, subst, arith}
use Rattle.std.specs.List.{list_any, range_with_len}
use Rattle.std.proofs.lemmas.Bool.{true≢false, eqb-true, eq-eqb, or_left, or_right, and_from}
use Rattle.mv_layers.specs.References.{depends, direct_indexes, reaches_within, Reaches, through}
use Rattle.mv_layers.specs.References as References
use Rattle.mv_layers.proofs.Ranges.{some_at}
use Rattle.mv_layers.proofs.AnyLaws.{any_filter}

pub cases : {A B C : Type 0} → A ⊎ B → (A → C) → (B → C) → C
cases (inl a) f g = f a
cases (inr b) f g = g b

pub either : (x y : Bool) → (x || y) ≡ true → (x ≡ true) ⊎ (y ≡ true)
either true y e = inl refl
either false y e = inr e

pub both : (x y : Bool) → (x && y) ≡ true → (x ≡ true) × (y ≡ true)
both true y e = (refl, e)
both false y e = absurd (true≢false (sym e))

-- some number of a range passes
in_range : (p : ℕ → Bool) (a n : ℕ) → list_any p (range_with_len a n) ≡ true → (j : ℕ) × ((j < a + n) × (p j ≡ true))
in_range p a zero e = absurd (true≢false (sym e))
in_range p a (suc n) e = cases (either (p a) (list_any p (range_with_len (a + 1) n)) e) (λ t. (a, (omega arith, t))) λ t.
    let found = in_range p (a + 1) n t in
    let low : found.0 < (a + 1) + n = found.1.0 in
    (found.0, (omega (arith, low), found.1.1))

pub some_below : (p : ℕ → Bool) (n : ℕ) → list_any p (range_with_len 0 n) ≡ true → (j : ℕ) × ((j < n) × (p j ≡ true))
some_below p n e =
    let found = in_range p 0 n e in
    let low : found.0 < 0 + n = found.1.0 in
    (found.0, (omega (arith, low), found.1.1))

-- one direct reference, and what it reaches_within
first_step : (flags : List (List ℕ)) (n i k : ℕ) → reaches_within flags (suc n) i k ≡ true
    → (i ≡ k) ⊎ ((j : ℕ) × ((j < i) × ((depends flags i j ≡ true) × (reaches_within flags n j k ≡ true))))
first_step flags n i k e =
    cases (either (nat_eq i k) (list_any (λ j. reaches_within flags n j k) (direct_indexes flags i)) e) (λ same. inl (eqb-true i k same)) λ some.
    let found = some_below (λ j. depends flags i j && reaches_within flags n j k) i
    (sym (any_filter (depends flags i) (λ j. reaches_within flags n j k) (range_with_len 0 i)) ∙ some) in
    inr (found.0, (found.1.0, both (depends flags i found.0) (reaches_within flags n found.0 k) found.1.1))

from_step : (flags : List (List ℕ)) (n i j k : ℕ) → j < i → depends flags i j ≡ true → reaches_within flags n j k ≡ true → reaches_within flags (suc n) i k ≡ true
from_step flags n i j k h d r =
    or_right (nat_eq i k) (list_any (λ m. reaches_within flags n m k) (direct_indexes flags i))
    (any_filter (depends flags i) (λ m. reaches_within flags n m k) (range_with_len 0 i)
    ∙ some_at (λ m. depends flags i m && reaches_within flags n m k) i j h (and_from (depends flags i j) (reaches_within flags n j k) d r))

pub itself : (flags : List (List ℕ)) (n i : ℕ) → reaches_within flags n i i ≡ true
itself flags zero i = eq-eqb i i refl
itself flags (suc n) i = or_left (nat_eq i i) (list_any (λ j. reaches_within flags n j i) (direct_indexes flags i)) (eq-eqb i i refl)

same_reached : (flags : List (List ℕ)) (m i k : ℕ) → i ≡ k → reaches_within flags m i k ≡ true
same_reached flags m i k e = subst (λ j. reaches_within flags m i j ≡ true) e (itself flags m i)

-- i references are enough
pub enough : (flags : List (List ℕ)) (n i k m : ℕ) → i ≤ m → reaches_within flags n i k ≡ true → reaches_within flags m i k ≡ true
enough flags zero i k m h e = same_reached flags m i k (eqb-true i k e)
enough flags (suc n) i k zero h e = cases (first_step flags n i k e) (same_reached flags zero i k) (λ s. let low : s.0 < i = s.1.0 in absurd (omega (arith, low, h)))
enough flags (suc n) i k (suc m) h e =
    cases (first_step flags n i k e) (same_reached flags (suc m) i k) λ s.
    let low : s.0 < i = s.1.0 in
    from_step flags m i s.0 k low s.1.1.0 (enough flags n s.0 k m (omega (arith, low, h)) s.1.1.1)

-- one reference behind the last
further : (flags : List (List ℕ)) (n i j k : ℕ) → reaches_within flags n i j ≡ true → k < j → depends flags j k ≡ true → reaches_within flags (suc n) i k ≡ true
further flags zero i j k e h d =
    let same : j ≡ i = sym (eqb-true i j e) in
    from_step flags zero i k k (subst (λ m. k < m) same h) (subst (λ m. depends flags m k ≡ true) same d) (itself flags zero k)
further flags (suc n) i j k e h d =
    cases (first_step flags n i j e)
    (λ same. from_step flags (suc n) i k k (subst (λ m. k < m) (sym same) h) (subst (λ m. depends flags m k ≡ true) (sym same) d) (itself flags (suc n) k))
    λ s. from_step flags (suc n) i s.0 k s.1.0 s.1.1.0 (further flags n s.0 j k s.1.1.1 h d)

pub closed : (flags : List (List ℕ)) (i j k : ℕ) → reaches_within flags i i j ≡ true → k < j → depends flags j k ≡ true → reaches_within flags i i k ≡ true
closed flags i j k e h d = enough flags (suc i) i k i (omega arith) (further flags i i j k e h d)

pub least : (flags : List (List ℕ)) (members : ℕ → Bool) → ((j k : ℕ) → members j ≡ true → k < j → depends flags j k ≡ true → members k ≡ true)
    → (n i k : ℕ) → members i ≡ true → reaches_within flags n i k ≡ true → members k ≡ true
least flags members all zero i k s e = subst (λ j. members j ≡ true) (eqb-true i k e) s
least flags members all (suc n) i k s e =
    cases (first_step flags n i k e) (λ same. subst (λ j. members j ≡ true) same s)
    λ t. least flags members all n t.0 k (all i t.0 s t.1.0 t.1.1.0) t.1.1.1

-- ---- the relation
pub found_reached : (flags : List (List ℕ)) (n i k : ℕ) → reaches_within flags n i k ≡ true → Reaches flags i k
found_reached flags zero i k e = subst (λ j. Reaches flags i j) (eqb-true i k e) (References.itself flags i)
found_reached flags (suc n) i k e =
    cases (first_step flags n i k e) (λ same. subst (λ j. Reaches flags i j) same (References.itself flags i))
    (λ s. through flags i s.0 k s.1.0 s.1.1.0 (found_reached flags n s.0 k s.1.1.1))

pub all_reached : (flags : List (List ℕ)) (i k : ℕ) → Reaches flags i k → reaches_within flags i i k ≡ true
all_reached flags i k (References.itself _ _) = itself flags i i
all_reached flags i k (through _ _ j _ h d r) = enough flags (suc j) i k i (omega arith) (from_step flags j i j k h d (all_reached flags j k r))
