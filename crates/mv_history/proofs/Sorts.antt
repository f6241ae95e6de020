-- What is put into a list in order, and a history in order.
use Rattle.std.proofs.Common.{◌≡◌, suc, Bool, true, false, cond, ◌||◌, List, [], ◌∷◌, ◌++◌, filter, length, refl, ap, ◌∙◌}
use Rattle.std.specs.Prelude.{⊤}
use Rattle.std.specs.List.{list_any}
use Rattle.std.proofs.lemmas.Bool.{or_parts, or_from}
use Rattle.mv_history.specs.Order.{IsOrder, put, sorted}

-- no element stands before one that it stands behind
abbrev pub IsRising : {A : Type 0} → (A → A → Bool) → List A → Type 0
IsRising lt [] = ⊤
IsRising lt (x ∷ xs) = (list_any (λ y. lt y x) xs ≡ false) × IsRising lt xs

pub length-put : {A : Type 0} (lt : A → A → Bool) (a : A) (xs : List A) → length (put lt a xs) ≡ suc (length xs)
unfolding put
length-put lt a [] = refl
length-put lt a (x ∷ xs) = go (lt a x) (length-put lt a xs)
  where
    go : (b : Bool) → length (put lt a xs) ≡ suc (length xs) → length (cond b (a ∷ x ∷ xs) (x ∷ put lt a xs)) ≡ suc (suc (length xs))
    go true rest = refl
    go false rest = ap suc rest

pub length-sorted : {A : Type 0} (lt : A → A → Bool) (past : List A) → length (sorted lt past) ≡ length past
unfolding sorted
length-sorted lt [] = refl
length-sorted lt (a ∷ past) = length-put lt a (sorted lt past) ∙ ap suc (length-sorted lt past)

or_swap : (x y z : Bool) → (x || (y || z)) ≡ (y || (x || z))
or_swap true true z = refl
or_swap true false z = refl
or_swap false true z = refl
or_swap false false z = refl

pub list_any-put : {A : Type 0} (lt : A → A → Bool) (test : A → Bool) (a : A) (xs : List A) → list_any test (put lt a xs) ≡ (test a || list_any test xs)
unfolding put
list_any-put lt test a [] = refl
list_any-put lt test a (x ∷ xs) = go (lt a x) (list_any-put lt test a xs)
  where
    go : (b : Bool) → list_any test (put lt a xs) ≡ (test a || list_any test xs) → list_any test (cond b (a ∷ x ∷ xs) (x ∷ put lt a xs)) ≡ (test a || (test x || list_any test xs))
    go true rest = refl
    go false rest = ap (λ b. test x || b) rest ∙ or_swap (test x) (test a) (list_any test xs)

-- as many pass in order as before
both : {A : Type 0} (s t : Bool) (x y : A) (xs : List A) → length (cond s (x ∷ cond t (y ∷ xs) xs) (cond t (y ∷ xs) xs)) ≡ length (cond t (y ∷ cond s (x ∷ xs) xs) (cond s (x ∷ xs) xs))
both true true x y xs = refl
both true false x y xs = refl
both false true x y xs = refl
both false false x y xs = refl

same_length : {A : Type 0} (b : Bool) (x : A) (xs ys : List A) → length xs ≡ length ys → length (cond b (x ∷ xs) xs) ≡ length (cond b (x ∷ ys) ys)
same_length true x xs ys e = ap suc e
same_length false x xs ys e = e

pub count-put : {A : Type 0} (lt : A → A → Bool) (test : A → Bool) (a : A) (xs : List A) → length (filter test (put lt a xs)) ≡ length (filter test (a ∷ xs))
unfolding put
count-put lt test a [] = refl
count-put lt test a (x ∷ xs) = go (lt a x) (count-put lt test a xs)
  where
    go : (b : Bool) → length (filter test (put lt a xs)) ≡ length (cond (test a) (a ∷ filter test xs) (filter test xs)) →
        length (filter test (cond b (a ∷ x ∷ xs) (x ∷ put lt a xs))) ≡ length (filter test (a ∷ x ∷ xs))
    go true rest = refl
    go false rest =
        same_length (test x) x (filter test (put lt a xs)) (cond (test a) (a ∷ filter test xs) (filter test xs)) rest
        ∙ both (test x) (test a) x a (filter test xs)

pub count-sorted : {A : Type 0} (lt : A → A → Bool) (test : A → Bool) (past : List A) → length (filter test (sorted lt past)) ≡ length (filter test past)
unfolding sorted
count-sorted lt test [] = refl
count-sorted lt test (a ∷ past) =
    count-put lt test a (sorted lt past) ∙ same_length (test a) a (filter test (sorted lt past)) (filter test past) (count-sorted lt test past)

-- what stands before an element stands before all behind it
pub all_above : {A : Type 0} (lt : A → A → Bool) → IsOrder lt → (a x : A) → lt a x ≡ true → (xs : List A) → list_any (λ y. lt y x) xs ≡ false → filter (lt a) xs ≡ xs
all_above lt order a x above [] h = refl
all_above lt order a x above (y ∷ ys) h =
    let parts : (lt y x ≡ false) × (list_any (λ y. lt y x) ys ≡ false) = or_parts (lt y x) (list_any (λ y. lt y x) ys) h in
    ap (λ b. cond b (y ∷ filter (lt a) ys) (filter (lt a) ys)) (order.carries a x y above parts.0)
    ∙ ap (λ ys. y ∷ ys) (all_above lt order a x above ys parts.1)

pub none_before : {A : Type 0} (lt : A → A → Bool) → IsOrder lt → (a x : A) → lt a x ≡ true → (xs : List A) → list_any (λ y. lt y x) xs ≡ false → list_any (λ y. lt y a) xs ≡ false
none_before lt order a x above [] h = refl
none_before lt order a x above (y ∷ ys) h =
    let parts : (lt y x ≡ false) × (list_any (λ y. lt y x) ys ≡ false) = or_parts (lt y x) (list_any (λ y. lt y x) ys) h in
    or_from (lt y a) (list_any (λ y. lt y a) ys) (order.one_way a y (order.carries a x y above parts.0)) (none_before lt order a x above ys parts.1)

pub put-rising : {A : Type 0} (lt : A → A → Bool) → IsOrder lt → (a : A) (xs : List A) → IsRising lt xs → IsRising lt (put lt a xs)
unfolding put
put-rising lt order a [] h = (refl, tt)
put-rising lt order a (x ∷ xs) h = go (lt a x) refl (put-rising lt order a xs h.1)
  where
    go : (b : Bool) → lt a x ≡ b → IsRising lt (put lt a xs) → IsRising lt (cond b (a ∷ x ∷ xs) (x ∷ put lt a xs))
    go true e rest = (or_from (lt x a) (list_any (λ y. lt y a) xs) (order.one_way a x e) (none_before lt order a x e xs h.0), h)
    go false e rest = (list_any-put lt (λ y. lt y x) a xs ∙ or_from (lt a x) (list_any (λ y. lt y x) xs) e h.0, rest)

pub sorted-rising : {A : Type 0} (lt : A → A → Bool) → IsOrder lt → (past : List A) → IsRising lt (sorted lt past)
unfolding sorted
sorted-rising lt order [] = tt
sorted-rising lt order (a ∷ past) = put-rising lt order a (sorted lt past) (sorted-rising lt order past)

-- what stands behind all of a list is put behind it
pub put-append : {A : Type 0} (lt : A → A → Bool) (a : A) (gs ws : List A) → list_any (lt a) gs ≡ false → put lt a (gs ++ ws) ≡ gs ++ put lt a ws
unfolding put
put-append lt a [] ws h = refl
put-append lt a (g ∷ gs) ws h =
    let parts : (lt a g ≡ false) × (list_any (lt a) gs ≡ false) = or_parts (lt a g) (list_any (lt a) gs) h in
    ap (λ b. cond b (a ∷ g ∷ (gs ++ ws)) (g ∷ put lt a (gs ++ ws))) parts.0 ∙ ap (λ xs. g ∷ xs) (put-append lt a gs ws parts.1)
