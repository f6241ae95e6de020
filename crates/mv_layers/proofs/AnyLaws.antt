-- Some element of a list passes a test, tried in turn, behind a filter or a map.
use Rattle.std.proofs.Common.{◌≡◌, ℕ, ◌+◌, ◌<◌, ◌≤◌, Bool, true, false, ◌&&◌, ◌||◌, List, [], ◌∷◌, get_or, length, map, take, cond, refl, sym, ap, ap₂, ◌∙◌}
use Rattle.std.specs.List.{list_any, filter}
use Rattle.std.proofs.lemmas.List.{take_all}
use Rattle.std.proofs.lemmas.List.Folds.{list_any_more, list_any_at}

pub none_more_of : {A : Type 0} (p : A → Bool) (xs : List A) (i : ℕ) (x d : A) → i < length xs → x ≡ get_or xs i d
    → list_any p (take i xs) ≡ false → p x ≡ false → list_any p (take (i + 1) xs) ≡ false
none_more_of p xs i x d h is none this = list_any_more p xs i d h ∙ ap₂ (λ a b. a || b) none (ap p (sym is) ∙ this)

pub some_of : {A : Type 0} (p : A → Bool) (xs : List A) (i : ℕ) (x d : A) → i < length xs → x ≡ get_or xs i d → p x ≡ true → list_any p xs ≡ true
some_of p xs i x d h is this = list_any_at p xs i d h (ap p (sym is) ∙ this)

pub none_of : {A : Type 0} (p : A → Bool) (xs : List A) (i : ℕ) → length xs ≤ i → list_any p (take i xs) ≡ false → list_any p xs ≡ false
none_of p xs i h none = ap (list_any p) (sym (take_all i xs h)) ∙ none

pub any_filter : {A : Type 0} (d q : A → Bool) (xs : List A) → list_any q (filter d xs) ≡ list_any (λ x. d x && q x) xs
any_filter d q [] = refl
any_filter {A} d q (x ∷ xs) = go (d x) (any_filter d q xs)
  where
    go : (b : Bool) → list_any q (filter d xs) ≡ list_any (λ y. d y && q y) xs
        → list_any q (cond b (x ∷ filter d xs) (filter d xs)) ≡ ((b && q x) || list_any (λ y. d y && q y) xs)
    go true same = ap (λ r. q x || r) same
    go false same = same

pub any_map : {A B : Type 0} (f : A → B) (q : B → Bool) (xs : List A) → list_any q (map f xs) ≡ list_any (λ x. q (f x)) xs
any_map f q [] = refl
any_map f q (x ∷ xs) = ap (λ r. q (f x) || r) (any_map f q xs)
