-- The layers that each layer reaches, from those that the layers before it reach.
use Rattle.std.proofs.Common.{◌≡◌, ℕ, zero, suc, ◌+◌, ◌<◌, nat_eq, Bool, true, false, cond, ◌&&◌, ◌||◌, List, [], ◌∷◌, ◌++◌, map, get_or, refl, sym, ap, ap₂, ◌∙◌, arith}
use Rattle.std.specs.List.{list_any, filter, range_with_len}
use Rattle.std.proofs.lemmas.List.FromFn.{get_or-map-range_with_len}
use Rattle.mv_layers.specs.References.{depends, direct_indexes, reaches_within, reaches}
use Rattle.mv_layers.proofs.AnyLaws.{any_filter}
use Rattle.mv_layers.proofs.ClosureLaws.{enough}
use Rattle.mv_layers.proofs.Collecting.{made_more}

-- what agrees on the numbers of a range
pub agree_map : {A : Type 0} (f g : ℕ → A) (a n : ℕ) → ((j : ℕ) → j < a + n → f j ≡ g j) → map f (range_with_len a n) ≡ map g (range_with_len a n)
agree_map f g a zero same = refl
agree_map f g a (suc n) same = ap₂ (λ x l. x ∷ l) (same a (omega arith)) (agree_map f g (a + 1) n (λ j h. same j (omega (arith, h))))

pub agree_any : (p q : ℕ → Bool) (a n : ℕ) → ((j : ℕ) → j < a + n → p j ≡ q j) → list_any p (range_with_len a n) ≡ list_any q (range_with_len a n)
agree_any p q a zero same = refl
agree_any p q a (suc n) same = ap₂ (λ x y. x || y) (same a (omega arith)) (agree_any p q (a + 1) n (λ j h. same j (omega (arith, h))))

pub agree_filter : (p q : ℕ → Bool) (a n : ℕ) → ((j : ℕ) → j < a + n → p j ≡ q j) → filter p (range_with_len a n) ≡ filter q (range_with_len a n)
agree_filter p q a zero same = refl
agree_filter p q a (suc n) same = ap₂ (λ b l. cond b (a ∷ l) l) (same a (omega arith)) (agree_filter p q (a + 1) n (λ j h. same j (omega (arith, h))))

same_truth : (x y : Bool) → (x ≡ true → y ≡ true) → (y ≡ true → x ≡ true) → x ≡ y
same_truth true y f g = sym (f refl)
same_truth false true f g = g refl
same_truth false false f g = refl

or_false : (b : Bool) → b ≡ (b || false)
or_false true = refl
or_false false = refl

-- where two tests agree below i, so do they on the direct references of the layer of index i
agree_direct : (flags : List (List ℕ)) (i : ℕ) (p q : ℕ → Bool) → ((j : ℕ) → j < i → p j ≡ q j) → list_any p (direct_indexes flags i) ≡ list_any q (direct_indexes flags i)
agree_direct flags i p q same =
    any_filter (depends flags i) p (range_with_len 0 i)
    ∙ agree_any (λ j. depends flags i j && p j) (λ j. depends flags i j && q j) 0 i (λ j h. ap (λ b. depends flags i j && b) (same j (omega (arith, h))))
    ∙ sym (any_filter (depends flags i) q (range_with_len 0 i))

-- a layer reaches itself and what its direct reference layers reach
pub reaches_from : (flags : List (List ℕ)) (i k : ℕ) → reaches flags i k ≡ (nat_eq i k || list_any (λ j. reaches flags j k) (direct_indexes flags i))
reaches_from flags zero k = or_false (nat_eq 0 k)
reaches_from flags (suc n) k =
    ap (λ b. nat_eq (suc n) k || b)
    (agree_direct flags (suc n) (λ j. reaches_within flags n j k) (λ j. reaches flags j k)
    (λ j h. same_truth (reaches_within flags n j k) (reaches flags j k) (enough flags n j k j (omega arith)) (enough flags j j k n (omega (arith, h)))))

-- the marks of so many layers
pub row_at : (flags : List (List ℕ)) (count n : ℕ) (all : List (List Bool)) (j k : ℕ)
    → all ≡ map (λ i. map (reaches flags i) (range_with_len 0 count)) (range_with_len 0 n) → j < n → k < count
    → get_or (get_or all j []) k false ≡ reaches flags j k
row_at flags count n all j k e h low =
    ap (λ rows. get_or (get_or rows j []) k false) e
    ∙ ap (λ marks. get_or marks k false) (get_or-map-range_with_len (λ i. map (reaches flags i) (range_with_len 0 count)) 0 n j j [] h (omega arith))
    ∙ get_or-map-range_with_len (reaches flags j) 0 count k k false low (omega arith)

-- the marks of the next layer
pub next_row : (flags : List (List ℕ)) (count i : ℕ) (all : List (List Bool))
    → all ≡ map (λ i. map (reaches flags i) (range_with_len 0 count)) (range_with_len 0 i)
    → map (λ k. nat_eq i k || list_any (λ j. get_or (get_or all j []) k false) (direct_indexes flags i)) (range_with_len 0 count)
    ≡ map (reaches flags i) (range_with_len 0 count)
next_row flags count i all e =
    agree_map (λ k. nat_eq i k || list_any (λ j. get_or (get_or all j []) k false) (direct_indexes flags i)) (reaches flags i) 0 count
    (λ k low. ap (λ b. nat_eq i k || b)
    (agree_direct flags i (λ j. get_or (get_or all j []) k false) (λ j. reaches flags j k) (λ j h. row_at flags count i all j k e h (omega (arith, low))))
    ∙ sym (reaches_from flags i k))

pub rows_more : (flags : List (List ℕ)) (count i : ℕ) (all seen new : List (List Bool)) (marks : List Bool)
    → all ≡ map (λ i. map (reaches flags i) (range_with_len 0 count)) (range_with_len 0 i)
    → seen ≡ all
    → marks ≡ map (λ k. nat_eq i k || list_any (λ j. get_or (get_or seen j []) k false) (direct_indexes flags i)) (range_with_len 0 count)
    → new ≡ all ++ marks ∷ []
    → new ≡ map (λ i. map (reaches flags i) (range_with_len 0 count)) (range_with_len 0 (i + 1))
rows_more flags count i all seen new marks so_far same is e =
    e ∙ ap₂ (λ l m. l ++ m ∷ []) so_far (is ∙ next_row flags count i seen (same ∙ so_far))
    ∙ sym (made_more (λ i. map (reaches flags i) (range_with_len 0 count)) i)
