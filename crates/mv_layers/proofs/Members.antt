-- What is an element of a list that is picked from a range, or that passes a test.
use Rattle.std.proofs.Common.{◌≡◌, ℕ, zero, suc, ◌+◌, ◌-◌, ◌<◌, ◌≤◌, ltb, nat_eq, Bool, true, false, not, cond, ◌&&◌, ◌||◌, List, [], ◌∷◌, get_or, length, map, drop, option_map, Some, refl, sym, ap, ap₂, ◌∙◌, subst, arith}
use Rattle.std.specs.List.{list_any, filter, find, range_with_len}
use Rattle.std.proofs.lemmas.Bool.{true≢false, eqb-true, eq-eqb, or_left, or_right, and_from, ltb-false, ltb-true}
use Rattle.std.proofs.lemmas.List.{get_or_past}
use Rattle.std.proofs.lemmas.List.Folds.{list_any_at}
use Rattle.mv_syntax.specs.Words.{◌otherwise◌}
use Rattle.mv_layers.specs.LayerInfos.{LayerInfoValue}
use Rattle.mv_layers.specs.LayerSets.{has_layer, layers_in}
use Rattle.mv_layers.specs.OutputLayers.{is_among, highest}
use Rattle.mv_layers.proofs.Ranges.{some_at}
use Rattle.mv_layers.proofs.AnyLaws.{any_filter, any_map}
use Rattle.mv_layers.proofs.ClosureLaws.{cases, either, both, some_below}

-- the place of an element that passes
pub some_place : {X : Type 0} (p : X → Bool) (xs : List X) (d : X) → list_any p xs ≡ true → (k : ℕ) × ((k < length xs) × (p (get_or xs k d) ≡ true))
some_place p [] d h = absurd (true≢false (sym h))
some_place p (x ∷ xs) d h = cases (either (p x) (list_any p xs) h) (λ e. (0, (omega arith, e))) λ e.
    let later = some_place p xs d e in
    let low : later.0 < length xs = later.1.0 in
    (suc later.0, (omega (arith, low), later.1.1))

both_of : {A B C : Type 0} → A × B → (A → B → C) → C
both_of pair f = f pair.0 pair.1

-- ---- picked from a range
pub picked : (f : ℕ → ℕ) (p : ℕ → Bool) (n id : ℕ) → is_among (map f (filter p (range_with_len 0 n))) id ≡ true
    → (j : ℕ) × ((j < n) × ((p j ≡ true) × (f j ≡ id)))
picked f p n id h =
    let found = some_below (λ j. p j && nat_eq (f j) id) n
    (sym (any_map f (λ y. nat_eq y id) (filter p (range_with_len 0 n)) ∙ any_filter p (λ j. nat_eq (f j) id) (range_with_len 0 n)) ∙ h) in
    let here = both (p found.0) (nat_eq (f found.0) id) found.1.1 in
    (found.0, (found.1.0, (here.0, eqb-true (f found.0) id here.1)))

pub pick : (f : ℕ → ℕ) (p : ℕ → Bool) (n id j : ℕ) → j < n → p j ≡ true → f j ≡ id → is_among (map f (filter p (range_with_len 0 n))) id ≡ true
pick f p n id j h passes is =
    any_map f (λ y. nat_eq y id) (filter p (range_with_len 0 n))
    ∙ any_filter p (λ j. nat_eq (f j) id) (range_with_len 0 n)
    ∙ some_at (λ j. p j && nat_eq (f j) id) n j h (and_from (p j) (nat_eq (f j) id) passes (eq-eqb (f j) id is))

-- ---- passing a test
none_passes : (b : Bool) → (b && false) ≡ false
none_passes true = refl
none_passes false = refl

same_test : (p : ℕ → Bool) (x id : ℕ) → (p x && nat_eq x id) ≡ (p id && nat_eq x id)
same_test p x id = go (nat_eq x id) refl
  where
    go : (b : Bool) → nat_eq x id ≡ b → (p x && nat_eq x id) ≡ (p id && nat_eq x id)
    go true e = ap (λ y. p y && nat_eq x id) (eqb-true x id e)
    go false e = ap (λ b. p x && b) e ∙ none_passes (p x) ∙ sym (none_passes (p id)) ∙ ap (λ b. p id && b) (sym e)

factor : (a b c : Bool) → ((a && b) || (a && c)) ≡ (a && (b || c))
factor true b c = refl
factor false b c = refl

tested : (p : ℕ → Bool) (xs : List ℕ) (id : ℕ) → list_any (λ x. p x && nat_eq x id) xs ≡ (p id && is_among xs id)
tested p [] id = sym (none_passes (p id))
tested p (x ∷ xs) id = ap₂ (λ a b. a || b) (same_test p x id) (tested p xs id) ∙ factor (p id) (nat_eq x id) (is_among xs id)

-- an element that passes is one that stays
pub among_filter : (p : ℕ → Bool) (xs : List ℕ) (id : ℕ) → is_among (filter p xs) id ≡ (p id && is_among xs id)
among_filter p xs id = any_filter p (λ x. nat_eq x id) xs ∙ tested p xs id

-- where none passes, no element does
pub none_among : (q : ℕ → Bool) (xs : List ℕ) (id : ℕ) → list_any q xs ≡ false → is_among xs id ≡ true → q id ≡ false
none_among q [] id none h = absurd (true≢false (sym h))
none_among q (x ∷ xs) id none h = cases (either (nat_eq x id) (is_among xs id) h)
    (λ e. sym (ap q (eqb-true x id e)) ∙ first_false (q x) (list_any q xs) none)
    (λ later. none_among q xs id (second_false (q x) (list_any q xs) none) later)
  where
    first_false : (a b : Bool) → (a || b) ≡ false → a ≡ false
    first_false true b e = e
    first_false false b e = refl

    second_false : (a b : Bool) → (a || b) ≡ false → b ≡ false
    second_false true b e = absurd (true≢false e)
    second_false false b e = e

-- the same of any list, at a place
pub none_at : {X : Type 0} (q : X → Bool) (xs : List X) (k : ℕ) (d : X) → list_any q xs ≡ false → k < length xs → q (get_or xs k d) ≡ false
none_at {X} q xs k d none h = go (q (get_or xs k d)) refl
  where
    go : (b : Bool) → q (get_or xs k d) ≡ b → q (get_or xs k d) ≡ false
    go true e = absurd (true≢false (sym (list_any_at q xs k d h e) ∙ none))
    go false e = e

-- ---- the layers of a layer set
pub has_within : (flags : List ℕ) (id : ℕ) → has_layer flags id ≡ true → id < length flags
has_within flags id h = go (ltb id (length flags)) refl
  where
    go : (b : Bool) → ltb id (length flags) ≡ b → id < length flags
    go true e = ltb-true id (length flags) e
    go false e = absurd (true≢false (sym h ∙ ap (λ flag. nat_eq flag 1) (get_or_past flags id 0 (ltb-false id (length flags) e))))

pub in_set : (flags : List ℕ) (id : ℕ) → is_among (layers_in flags) id ≡ true → has_layer flags id ≡ true
in_set flags id h = (both (has_layer flags id) (is_among (range_with_len 0 (length flags)) id) (sym (among_filter (has_layer flags) (range_with_len 0 (length flags)) id) ∙ h)).0

pub set_has : (flags : List ℕ) (id : ℕ) → has_layer flags id ≡ true → is_among (layers_in flags) id ≡ true
set_has flags id h =
    among_filter (has_layer flags) (range_with_len 0 (length flags)) id
    ∙ and_from (has_layer flags id) (is_among (range_with_len 0 (length flags)) id) h
    (some_at (λ x. nat_eq x id) (length flags) id (has_within flags id h) (eq-eqb id id refl))

-- ---- the last of a list
pub among_drop : (n : ℕ) (xs : List ℕ) (id : ℕ) → is_among (drop n xs) id ≡ true → is_among xs id ≡ true
among_drop zero xs id h = h
among_drop (suc n) [] id h = h
among_drop (suc n) (x ∷ xs) id h = or_right (nat_eq x id) (is_among xs id) (among_drop n xs id h)

-- ---- the direct reference layers of a layer that a search finds
pub found : (p : LayerInfoValue → Bool) (f : ℕ → LayerInfoValue) (a n direct : ℕ)
    → is_among (option_map (λ (info : LayerInfoValue). info.directs) (find p (map f (range_with_len a n))) otherwise []) direct ≡ true
    → (i : ℕ) × ((i < a + n) × ((p (f i) ≡ true) × (is_among (f i).directs direct ≡ true)))
found p f a zero direct h = absurd (true≢false (sym h))
found p f a (suc n) direct h = go (p (f a)) refl h (found p f (a + 1) n direct)
  where
    go : (b : Bool) → p (f a) ≡ b
        → is_among (option_map (λ (info : LayerInfoValue). info.directs) (cond b (Some (f a)) (find p (map f (range_with_len (a + 1) n)))) otherwise []) direct ≡ true
        → (is_among (option_map (λ (info : LayerInfoValue). info.directs) (find p (map f (range_with_len (a + 1) n))) otherwise []) direct ≡ true
        → (i : ℕ) × ((i < (a + 1) + n) × ((p (f i) ≡ true) × (is_among (f i).directs direct ≡ true))))
        → (i : ℕ) × ((i < a + suc n) × ((p (f i) ≡ true) × (is_among (f i).directs direct ≡ true)))
    go true e here search_on = (a, (omega arith, (e, here)))
    go false e later search_on =
        let rest = search_on later in
        let low : rest.0 < (a + 1) + n = rest.1.0 in
        (rest.0, (omega (arith, low), rest.1.1))
