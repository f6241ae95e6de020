-- Some number below n passes a test, tried in turn.
use Rattle.std.proofs.Common.{◌≡◌, ℕ, ◌+◌, ◌<◌, ◌≤◌, Bool, true, false, cond, ◌||◌, get_or, length, take, sym, ap, ap₂, ◌∙◌, arith}
use Rattle.std.specs.List.{list_any, filter, range_with_len}
use Rattle.std.proofs.lemmas.List.{take_all}
use Rattle.std.proofs.lemmas.List.Folds.{list_any_more, list_any_at}
use Rattle.std.proofs.lemmas.List.Filters.{length-filter_more}
use Rattle.std.proofs.lemmas.List.FromFn.{length-range_with_len, get_or-range_with_len}

pub at_place : (n j : ℕ) → j < n → get_or (range_with_len 0 n) j 0 ≡ j
at_place n j h = let e : get_or (range_with_len 0 n) j 0 ≡ 0 + j = get_or-range_with_len 0 n j 0 h in omega arith

-- none of the first j, nor j
pub none_more : (p : ℕ → Bool) (n j : ℕ) → j < n → list_any p (take j (range_with_len 0 n)) ≡ false → p j ≡ false
    → list_any p (take (j + 1) (range_with_len 0 n)) ≡ false
none_more p n j h none this =
    let room : j < length (range_with_len 0 n) = rw (length-range_with_len 0 n) h in
    list_any_more p (range_with_len 0 n) j 0 room ∙ ap₂ (λ a b. a || b) none (ap p (at_place n j h) ∙ this)

-- j does
pub some_at : (p : ℕ → Bool) (n j : ℕ) → j < n → p j ≡ true → list_any p (range_with_len 0 n) ≡ true
some_at p n j h this =
    let room : j < length (range_with_len 0 n) = rw (length-range_with_len 0 n) h in
    list_any_at p (range_with_len 0 n) j 0 room (ap p (at_place n j h) ∙ this)

-- none of all
pub none_of_all : (p : ℕ → Bool) (n j : ℕ) → n ≤ j → list_any p (take j (range_with_len 0 n)) ≡ false → list_any p (range_with_len 0 n) ≡ false
none_of_all p n j h none =
    let all : length (range_with_len 0 n) ≤ j = rw (length-range_with_len 0 n) h in
    ap (list_any p) (sym (take_all j (range_with_len 0 n) all)) ∙ none

-- how many of the numbers below n pass a test, counted in turn
pub count_more : (p : ℕ → Bool) (n i count new : ℕ) (b : Bool) → i < n → count ≡ length (filter p (take i (range_with_len 0 n))) → count ≤ i
    → b ≡ p i → new ≡ count + cond b 1 0 → (new ≡ length (filter p (take (i + 1) (range_with_len 0 n)))) × (new ≤ i + 1)
count_more p n i count new b h so_far few is e = (
  e ∙ ap₂ (λ c x. c + cond x 1 0) so_far (is ∙ sym (ap p (at_place n i h))) ∙ sym (length-filter_more p (range_with_len 0 n) i 0 room),
  go b e,
)
  where
    room : i < length (range_with_len 0 n)
    room = rw (length-range_with_len 0 n) h

    go : (x : Bool) → new ≡ count + cond x 1 0 → new ≤ i + 1
    go true one = omega arith
    go false none = omega arith

pub count_of_all : (p : ℕ → Bool) (n i count : ℕ) → n ≤ i → count ≡ length (filter p (take i (range_with_len 0 n))) → count ≡ length (filter p (range_with_len 0 n))
count_of_all p n i count h so_far =
    let all : length (range_with_len 0 n) ≤ i = rw (length-range_with_len 0 n) h in
    so_far ∙ ap (λ xs. length (filter p xs)) (take_all i (range_with_len 0 n) all)
