-- Lists that rise.
use Rattle.std.proofs.Common.{◌≡◌, ℕ, zero, suc, ◌+◌, ◌-◌, ◌<◌, ◌≤◌, Bool, true, false, cond, List, [], ◌∷◌, get_or, length, map, drop, refl, sym, ap, ◌∙◌, subst, arith, length-drop}
use native.Mathlib.Numerals.{unary_clauses}
use Rattle.std.specs.List.{filter, range_with_len}
use Rattle.std.specs.List.Sorted.{IsStrictlyIncreasing}
use Rattle.std.proofs.lemmas.List.Kept.{AllPairs-from_increasing}
use Rattle.mv_layers.specs.OutputLayers.{highest}

-- it rises from this number on
abbrev pub rises_from : ℕ → List ℕ → Type 0
rises_from low [] = Unit {0}
rises_from low (x ∷ xs) = (low ≤ x) × rises_from (suc x) xs

pub increasing : (low : ℕ) (xs : List ℕ) → rises_from low xs → IsStrictlyIncreasing xs
increasing low [] h k lt = absurd (omega arith)
increasing low (x ∷ []) h k lt = absurd (omega arith)
increasing low (x ∷ y ∷ ys) h zero lt = h.1.0
increasing low (x ∷ y ∷ ys) h (suc k) lt =
    let later : get_or (y ∷ ys) k 0 < get_or (y ∷ ys) (k + 1) 0 = increasing (suc x) (y ∷ ys) h.1 k (omega arith) in
    let e : k + 1 ≡ suc k = omega arith in
    simp unary_clauses (subst (λ m. get_or (y ∷ ys) k 0 < get_or (y ∷ ys) m 0) e later)

-- what a rising function makes of the numbers of a range that pass
pub rise_map : (f : ℕ → ℕ) (p : ℕ → Bool) (a n low : ℕ) → ((i : ℕ) → a ≤ i → i < a + n → low ≤ f i)
    → ((i j : ℕ) → i < j → j < a + n → f i < f j) → rises_from low (map f (filter p (range_with_len a n)))
rise_map f p a zero low least rise = tt
rise_map f p a (suc n) low least rise =
    go (p a)
    (rise_map f p (a + 1) n (suc (f a)) (λ i h lt. rise a i (omega (arith, h)) (omega (arith, lt))) later)
    (rise_map f p (a + 1) n low (λ i h lt. least i (omega (arith, h)) (omega (arith, lt))) later)
  where
    later : (i j : ℕ) → i < j → j < (a + 1) + n → f i < f j
    later i j h lt = rise i j h (omega (arith, lt))

    go : (b : Bool) → rises_from (suc (f a)) (map f (filter p (range_with_len (a + 1) n))) → rises_from low (map f (filter p (range_with_len (a + 1) n)))
        → rises_from low (map f (cond b (a ∷ filter p (range_with_len (a + 1) n)) (filter p (range_with_len (a + 1) n))))
    go true above from = (least a (omega arith) (omega arith), above)
    go false above from = from

pub picked_rise : (f : ℕ → ℕ) (p : ℕ → Bool) (n : ℕ) → ((i j : ℕ) → i < j → j < n → f i < f j) → IsStrictlyIncreasing (map f (filter p (range_with_len 0 n)))
picked_rise f p n rise =
    increasing 0 (map f (filter p (range_with_len 0 n)))
    (rise_map f p 0 n 0 (λ i h lt. omega arith) (λ i j h lt. rise i j h (omega (arith, lt))))

map_same : (xs : List ℕ) → map (λ x. x) xs ≡ xs
map_same [] = refl
map_same (x ∷ xs) = ap (λ l. x ∷ l) (map_same xs)

pub range_rise : (p : ℕ → Bool) (n : ℕ) → IsStrictlyIncreasing (filter p (range_with_len 0 n))
range_rise p n = subst IsStrictlyIncreasing (map_same (filter p (range_with_len 0 n))) (picked_rise (λ x. x) p n (λ i j h lt. h))

-- places in a rising list
pub rises_at : (xs : List ℕ) → IsStrictlyIncreasing xs → (i j : ℕ) → i < j → j < length xs → get_or xs i 0 < get_or xs j 0
rises_at xs h i j lt low = AllPairs-from_increasing xs h i j 0 lt low

-- at most one element
pub highest_rises : (xs : List ℕ) → IsStrictlyIncreasing (highest xs)
highest_rises xs k lt = let one : length (drop (length xs - 1) xs) ≡ length xs - (length xs - 1) = length-drop (length xs - 1) xs in absurd (omega (arith, one, lt))
