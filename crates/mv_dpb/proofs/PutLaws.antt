-- An element is put in place by an insertion, and what stays of a list that is at most one too long.
use Rattle.std.proofs.Common.{◌≡◌, ℕ, suc, ◌+◌, ◌<◌, ◌≤◌, Bool, true, false, cond, not, List, [], ◌∷◌, length, drop, get_or, refl, ap, ◌∙◌, arith}
use Rattle.std.specs.Prelude.{insert}
use Rattle.std.specs.List.{position_or_len}
use Rattle.std.proofs.lemmas.Bool.{lt-ltb, le-ltb}
use Rattle.std.proofs.lemmas.List.{drop_all, drop_more}
use Rattle.mv_history.specs.Order.{put, staying}

pub length-put : {A : Type 0} (lt : A → A → Bool) (a : A) (xs : List A) → length (put lt a xs) ≡ suc (length xs)
unfolding put
length-put lt a [] = refl
length-put lt a (x ∷ xs) = go (lt a x) (length-put lt a xs)
  where
    go : (b : Bool) → length (put lt a xs) ≡ suc (length xs) → length (cond b (a ∷ x ∷ xs) (x ∷ put lt a xs)) ≡ suc (suc (length xs))
    go true e = refl
    go false e = ap suc e

-- the first place at which a test passes, when the first elements were tried
pub position-more : {A : Type 0} (test : A → Bool) (xs : List A) (i : ℕ) (d : A) → i < length xs → test (get_or xs i d) ≡ false →
    position_or_len test xs ≡ i + position_or_len test (drop i xs) → position_or_len test xs ≡ (i + 1) + position_or_len test (drop (i + 1) xs)
position-more test xs i d h fails e =
    let next : position_or_len test (drop i xs) ≡ 1 + position_or_len test (drop (i + 1) xs) =
    ap (position_or_len test) (drop_more xs i d h) ∙ ap (λ b. cond (not b) (1 + position_or_len test (drop (i + 1) xs)) 0) fails in
    omega (arith, e, next)

pub position-end : {A : Type 0} (test : A → Bool) (xs : List A) (i : ℕ) → length xs ≤ i → position_or_len test xs ≡ i + position_or_len test (drop i xs) → position_or_len test xs ≡ i
position-end test xs i h e = let none : position_or_len test (drop i xs) ≡ 0 = ap (position_or_len test) (drop_all i xs h) in omega (arith, e, none)

-- an element is put in at the first place that it stands before
pub put-position : {A : Type 0} (lt : A → A → Bool) (a : A) (xs : List A) → insert xs (position_or_len (lt a) xs) a ≡ put lt a xs
unfolding put
put-position lt a [] = refl
put-position lt a (x ∷ xs) = go (lt a x) (put-position lt a xs)
  where
    go : (b : Bool) → insert xs (position_or_len (lt a) xs) a ≡ put lt a xs → insert (x ∷ xs) (cond (not b) (1 + position_or_len (lt a) xs) 0) a ≡ cond b (a ∷ x ∷ xs) (x ∷ put lt a xs)
    go true e = refl
    go false e = let n : 1 + position_or_len (lt a) xs ≡ suc (position_or_len (lt a) xs) = omega arith in ap (λ i. insert (x ∷ xs) i a) n ∙ ap (λ ys. x ∷ ys) e

pub position-within : {A : Type 0} (test : A → Bool) (xs : List A) → position_or_len test xs ≤ length xs
position-within test [] = omega arith
position-within test (x ∷ xs) = go (test x) (position-within test xs)
  where
    go : (b : Bool) → position_or_len test xs ≤ length xs → cond (not b) (1 + position_or_len test xs) 0 ≤ suc (length xs)
    go true h = omega arith
    go false h = omega arith

pub staying-all : {A : Type 0} (n : ℕ) (xs : List A) → length xs ≤ n → staying n xs ≡ xs
unfolding staying
staying-all n [] h = refl
staying-all n (x ∷ xs) h = ap (λ b. cond b (staying n xs) (x ∷ xs)) (le-ltb n (length (x ∷ xs)) h)

pub staying-rest : {A : Type 0} (n : ℕ) (xs : List A) → length xs ≡ suc n → staying n xs ≡ drop 1 xs
unfolding staying
staying-rest n [] h = refl
staying-rest n (x ∷ xs) h = ap (λ b. cond b (staying n xs) (x ∷ xs)) (lt-ltb n (length (x ∷ xs)) (omega arith)) ∙ staying-all n xs (omega arith)
