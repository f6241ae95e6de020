-- Numbers give an order, and orders that agree on a history put it into the same order.
use Rattle.std.proofs.Common.{◌≡◌, ℕ, suc, ◌≤◌, Bool, true, false, cond, ◌||◌, ◌&&◌, List, [], ◌∷◌, ◌++◌, filter, map, length, refl, ap, sym, ◌∙◌, arith}
use Rattle.std.specs.Prelude.{nat_lt, ℤ, int_lt}
use Rattle.std.specs.List.{All}
use Rattle.std.specs.Ordering.{int_eq}
use Rattle.std.proofs.lemmas.Bool.{le-ltb}
use Rattle.std.proofs.lemmas.Int.{ints}
use Rattle.std.proofs.lemmas.List.{map-append, length-map}
use Rattle.std.proofs.lemmas.List.Elements.{All-cons, All-head, All-tail, All-weaker}
use Rattle.mv_history.specs.History.{Throughout}
use Rattle.mv_history.specs.Order.{Agree, IsOrder, by, by_both, put, sorted, leaving, staying, waits, gone, is_above, tops}
use Rattle.mv_history.proofs.Kept.{filter-map}
use Rattle.mv_history.proofs.Tops.{waits-above}

one_way : (x y : ℤ) → int_lt x y ≡ true → int_lt y x ≡ false
one_way x y h = grind (arith, ints)

carries : (x y z : ℤ) → int_lt x y ≡ true → int_lt z y ≡ false → int_lt x z ≡ true
carries x y z h k = grind (arith, ints)

pub by-order : {A : Type 0} (count : A → ℤ) → IsOrder (by count)
by-order count = record { one_way = λ a b. one_way (count a) (count b); carries = λ a b c. carries (count a) (count b) (count c) }

-- lateness by the numbers alone
pub tops-above : {A : Type 0} (count : A → ℤ) (reorder : ℕ) (past : List A) (a : A) → is_above reorder int_lt (tops count reorder past) (count a) ≡ is_above reorder (by count) past a
tops-above count reorder past a =
    waits-above reorder int_lt (record { one_way = one_way; carries = carries }) (map count past) (count a)
    ∙ ap (nat_lt reorder) (ap length (filter-map count (int_lt (count a)) past) ∙ length-map (filter (λ x. int_lt (count a) (count x)) past) count)

put-agree : {A : Type 0} (lt other : A → A → Bool) (a : A) (xs : List A) → Agree lt other xs a → put lt a xs ≡ put other a xs
unfolding put
put-agree lt other a [] h = refl
put-agree lt other a (x ∷ xs) h =
    ap (λ b. cond b (a ∷ x ∷ xs) (x ∷ put lt a xs)) (All-head (λ x. lt a x ≡ other a x) x xs h)
    ∙ ap (λ ys. cond (other a x) (a ∷ x ∷ xs) (x ∷ ys)) (put-agree lt other a xs (All-tail (λ x. lt a x ≡ other a x) x xs h))

pub All-put : {A : Type 0} (P : A → Type 0) (lt : A → A → Bool) (a : A) (xs : List A) → P a → All P xs → All P (put lt a xs)
unfolding put
All-put P lt a [] p h = All-cons P a [] p h
All-put P lt a (x ∷ xs) p h = go (lt a x) (All-put P lt a xs p (All-tail P x xs h))
  where
    go : (b : Bool) → All P (put lt a xs) → All P (cond b (a ∷ x ∷ xs) (x ∷ put lt a xs))
    go true rest = All-cons P a (x ∷ xs) p h
    go false rest = All-cons P x (put lt a xs) (All-head P x xs h) rest

pub All-sorted : {A : Type 0} (P : A → Type 0) (lt : A → A → Bool) (past : List A) → All P past → All P (sorted lt past)
unfolding sorted
All-sorted P lt [] h = h
All-sorted P lt (a ∷ past) h = All-put P lt a (sorted lt past) (All-head P a past h) (All-sorted P lt past (All-tail P a past h))

All-staying : {A : Type 0} (P : A → Type 0) (n : ℕ) (xs : List A) → All P xs → All P (staying n xs)
unfolding staying
All-staying P n [] h = h
All-staying P n (x ∷ xs) h = go (nat_lt n (length (x ∷ xs))) (All-staying P n xs (All-tail P x xs h))
  where
    go : (b : Bool) → All P (staying n xs) → All P (cond b (staying n xs) (x ∷ xs))
    go true rest = rest
    go false rest = h

pub All-waits : {A : Type 0} (P : A → Type 0) (n : ℕ) (lt : A → A → Bool) (past : List A) → All P past → All P (waits n lt past)
unfolding waits
All-waits P n lt [] h = h
All-waits P n lt (a ∷ past) h =
    All-staying P n (put lt a (waits n lt past)) (All-put P lt a (waits n lt past) (All-head P a past h) (All-waits P n lt past (All-tail P a past h)))

pub sorted-agree : {A : Type 0} (lt other : A → A → Bool) (past : List A) → Throughout (Agree lt other) past → sorted lt past ≡ sorted other past
unfolding sorted
sorted-agree lt other [] h = refl
sorted-agree lt other (a ∷ past) h =
    put-agree lt other a (sorted lt past) (All-sorted (λ x. lt a x ≡ other a x) lt past h.0) ∙ ap (put other a) (sorted-agree lt other past h.1)

pub waits-agree : {A : Type 0} (n : ℕ) (lt other : A → A → Bool) (past : List A) → Throughout (Agree lt other) past → waits n lt past ≡ waits n other past
unfolding waits
waits-agree n lt other [] h = refl
waits-agree n lt other (a ∷ past) h =
    ap (staying n)
    (put-agree lt other a (waits n lt past) (All-waits (λ x. lt a x ≡ other a x) n lt past h.0) ∙ ap (put other a) (waits-agree n lt other past h.1))

pub gone-agree : {A : Type 0} (n : ℕ) (lt other : A → A → Bool) (past : List A) → Throughout (Agree lt other) past → gone n lt past ≡ gone n other past
unfolding gone
gone-agree n lt other [] h = refl
gone-agree n lt other (a ∷ past) h =
    ap (λ xs. xs ++ leaving n (put lt a (waits n lt past))) (gone-agree n lt other past h.1)
    ∙ ap (λ xs. gone n other past ++ leaving n xs)
    (put-agree lt other a (waits n lt past) (All-waits (λ x. lt a x ≡ other a x) n lt past h.0) ∙ ap (put other a) (waits-agree n lt other past h.1))

-- where places rise, those with the same number are in order already
or_false : (b c : Bool) → (b || (c && false)) ≡ b
or_false true true = refl
or_false true false = refl
or_false false true = refl
or_false false false = refl

pub by_both-agree : {A : Type 0} (count : A → ℤ) (place : A → ℕ) (past : List A) (a : A) → All (λ x. place x ≤ place a) past → Agree (by_both count place) (by count) past a
by_both-agree count place past a h =
    All-weaker (λ x. place x ≤ place a) (λ x. by_both count place a x ≡ by count a x)
    (λ x le. ap (λ b. by count a x || (int_eq (count a) (count x) && b)) (le-ltb (place a) (place x) le) ∙ or_false (by count a x) (int_eq (count a) (count x)))
    past h

pub rising-agree : {A : Type 0} (count : A → ℤ) (place : A → ℕ) (past : List A) → Throughout (λ past a. All (λ x. place x ≤ place a) past) past → Throughout (Agree (by_both count place) (by count)) past
rising-agree count place [] h = tt
rising-agree count place (a ∷ past) h = (by_both-agree count place past a h.0, rising-agree count place past h.1)

-- elements told in other terms, with the same order
pub map-put : {A B : Type 0} (f : A → B) (lt : A → A → Bool) (other : B → B → Bool) → ((x y : A) → other (f x) (f y) ≡ lt x y) → (a : A) (xs : List A) → map f (put lt a xs) ≡ put other (f a) (map f xs)
unfolding put
map-put f lt other same a [] = refl
map-put f lt other same a (x ∷ xs) = go (lt a x) (same a x) (map-put f lt other same a xs)
  where
    go : (b : Bool) → other (f a) (f x) ≡ b → map f (put lt a xs) ≡ put other (f a) (map f xs) →
        map f (cond b (a ∷ x ∷ xs) (x ∷ put lt a xs)) ≡ cond (other (f a) (f x)) (f a ∷ f x ∷ map f xs) (f x ∷ put other (f a) (map f xs))
    go true e rest = sym (ap (λ b. cond b (f a ∷ f x ∷ map f xs) (f x ∷ put other (f a) (map f xs))) e)
    go false e rest = ap (λ ys. f x ∷ ys) rest ∙ sym (ap (λ b. cond b (f a ∷ f x ∷ map f xs) (f x ∷ put other (f a) (map f xs))) e)

pub map-staying : {A B : Type 0} (f : A → B) (n : ℕ) (xs : List A) → map f (staying n xs) ≡ staying n (map f xs)
unfolding staying
map-staying f n [] = refl
map-staying f n (x ∷ xs) =
    go (nat_lt n (length (x ∷ xs))) (map-staying f n xs)
    ∙ ap (λ k. cond (nat_lt n (suc k)) (staying n (map f xs)) (f x ∷ map f xs)) (sym (length-map xs f))
  where
    go : (b : Bool) → map f (staying n xs) ≡ staying n (map f xs) → map f (cond b (staying n xs) (x ∷ xs)) ≡ cond b (staying n (map f xs)) (f x ∷ map f xs)
    go true rest = rest
    go false rest = refl

pub map-leaving : {A B : Type 0} (f : A → B) (n : ℕ) (xs : List A) → map f (leaving n xs) ≡ leaving n (map f xs)
unfolding leaving
map-leaving f n [] = refl
map-leaving f n (x ∷ xs) =
    go (nat_lt n (length (x ∷ xs))) (map-leaving f n xs)
    ∙ ap (λ k. cond (nat_lt n (suc k)) (f x ∷ leaving n (map f xs)) []) (sym (length-map xs f))
  where
    go : (b : Bool) → map f (leaving n xs) ≡ leaving n (map f xs) → map f (cond b (x ∷ leaving n xs) []) ≡ cond b (f x ∷ leaving n (map f xs)) []
    go true rest = ap (λ ys. f x ∷ ys) rest
    go false rest = refl

pub map-waits : {A B : Type 0} (f : A → B) (n : ℕ) (lt : A → A → Bool) (other : B → B → Bool) → ((x y : A) → other (f x) (f y) ≡ lt x y) → (past : List A) → map f (waits n lt past) ≡ waits n other (map f past)
unfolding waits
map-waits f n lt other same [] = refl
map-waits f n lt other same (a ∷ past) =
    map-staying f n (put lt a (waits n lt past))
    ∙ ap (staying n) (map-put f lt other same a (waits n lt past) ∙ ap (put other (f a)) (map-waits f n lt other same past))

pub map-gone : {A B : Type 0} (f : A → B) (n : ℕ) (lt : A → A → Bool) (other : B → B → Bool) → ((x y : A) → other (f x) (f y) ≡ lt x y) → (past : List A) → map f (gone n lt past) ≡ gone n other (map f past)
unfolding gone
map-gone f n lt other same [] = refl
map-gone f n lt other same (a ∷ past) =
    map-append f (gone n lt past) (leaving n (put lt a (waits n lt past)))
    ∙ ap (λ xs. xs ++ map f (leaving n (put lt a (waits n lt past)))) (map-gone f n lt other same past)
    ∙ ap (λ xs. gone n other (map f past) ++ xs)
    (map-leaving f n (put lt a (waits n lt past))
    ∙ ap (leaving n) (map-put f lt other same a (waits n lt past) ∙ ap (put other (f a)) (map-waits f n lt other same past)))

pub map-sorted : {A B : Type 0} (f : A → B) (lt : A → A → Bool) (other : B → B → Bool) → ((x y : A) → other (f x) (f y) ≡ lt x y) → (past : List A) → map f (sorted lt past) ≡ sorted other (map f past)
unfolding sorted
map-sorted f lt other same [] = refl
map-sorted f lt other same (a ∷ past) = map-put f lt other same a (sorted lt past) ∙ ap (put other (f a)) (map-sorted f lt other same past)
