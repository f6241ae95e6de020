-- The access units of pictures: which are among others, and how many there are.
use Rattle.std.proofs.Common.{◌≡◌, ◌⊎◌, inl, inr, ℕ, suc, ◌≤◌, Bool, true, false, cond, not, ◌&&◌, ◌||◌, All, List, [], ◌∷◌, ◌++◌, filter, length, map, refl, sym, ap, ◌∙◌, arith}
use Rattle.std.specs.Prelude.{nat_eq}
use Rattle.std.specs.List.{list_any}
use Rattle.std.proofs.lemmas.Bool.{and_right, eq-eqb, eqb-true, or_cases, or_from, or_left, or_parts, or_right}
use Rattle.std.proofs.lemmas.List.Elements.{All-cons, All-head, All-nil, All-tail, All-weaker}
use Rattle.std.proofs.lemmas.List.Folds.{list_any-append}
use Rattle.mv_history.specs.Order.{put}
use Rattle.mv_history.proofs.Sorts.{IsRising}
use Rattle.mv_layers.specs.OutputLayers.{is_among}
use Rattle.mv_pictures.specs.Judged.{Judged, au, in_au}
use Rattle.mv_pictures.specs.Output.{distinct}
use Rattle.mv_commuting.proofs.Fewer.{fewer_distinct}
use Rattle.mv_walk_values.specs.InTime.{shares, units}

-- ---- Lists

-- what holds of those that pass
pub All_unfilter : {A : Type 0} (test : A → Bool) (Q : A → Type 0) (xs : List A) → All Q (filter test xs) → All (λ x. test x ≡ true → Q x) xs
All_unfilter test Q [] h = All-nil (λ x. test x ≡ true → Q x)
All_unfilter {A} test Q (x ∷ xs) h = go (test x) refl h (All_unfilter test Q xs)
  where
    go : (b : Bool) → test x ≡ b → All Q (cond b (x ∷ filter test xs) (filter test xs)) → (All Q (filter test xs) → All (λ x. test x ≡ true → Q x) xs) → All (λ x. test x ≡ true → Q x) (x ∷ xs)
    go true is h rest = All-cons (λ x. test x ≡ true → Q x) x xs (λ _. All-head Q x (filter test xs) h) (rest (All-tail Q x (filter test xs) h))
    go false is h rest = All-cons (λ x. test x ≡ true → Q x) x xs (λ other. absurd (let wrong : true ≡ false = sym other ∙ is in cc)) (rest h)

pub none_pass : {A : Type 0} (test : A → Bool) (xs : List A) → list_any test xs ≡ false → All (λ x. test x ≡ false) xs
none_pass test [] h = All-nil (λ x. test x ≡ false)
none_pass test (x ∷ xs) h =
    let parts : (test x ≡ false) × (list_any test xs ≡ false) = or_parts (test x) (list_any test xs) h in
    All-cons (λ x. test x ≡ false) x xs parts.0 (none_pass test xs parts.1)

-- one that passes, with what holds of all
pub one_passes : {A : Type 0} (test : A → Bool) (Q : A → Type 0) (xs : List A) → All Q xs → list_any test xs ≡ true → (x : A) × (test x ≡ true) × Q x
one_passes test Q [] all h = absurd (let wrong : false ≡ true = h in cc)
one_passes {A} test Q (x ∷ xs) all h = go (test x) refl h (one_passes test Q xs (All-tail Q x xs all))
  where
    go : (b : Bool) → test x ≡ b → (b || list_any test xs) ≡ true → (list_any test xs ≡ true → (x : A) × (test x ≡ true) × Q x) → (x : A) × (test x ≡ true) × Q x
    go true is h rest = (x, is, All-head Q x xs all)
    go false is h rest = rest h

pub filter_none : {A : Type 0} (test : A → Bool) (xs : List A) → All (λ x. test x ≡ false) xs → filter test xs ≡ []
filter_none test [] h = refl
filter_none test (x ∷ xs) h =
    ap (λ b. cond b (x ∷ filter test xs) (filter test xs)) (All-head (λ x. test x ≡ false) x xs h) ∙ filter_none test xs (All-tail (λ x. test x ≡ false) x xs h)

pub filter_all : {A : Type 0} (test : A → Bool) (xs : List A) → All (λ x. test x ≡ true) xs → filter test xs ≡ xs
filter_all test [] h = refl
filter_all test (x ∷ xs) h =
    ap (λ b. cond b (x ∷ filter test xs) (filter test xs)) (All-head (λ x. test x ≡ true) x xs h) ∙ ap (λ l. x ∷ l) (filter_all test xs (All-tail (λ x. test x ≡ true) x xs h))

-- one that doesn't pass is put among others
pub filter_put : {A : Type 0} (lt : A → A → Bool) (test : A → Bool) (a : A) (xs : List A) → test a ≡ false → filter test (put lt a xs) ≡ filter test xs
unfolding put
filter_put lt test a [] h = ap (λ b. cond b (a ∷ []) []) h
filter_put lt test a (x ∷ xs) h = go (lt a x) (filter_put lt test a xs h)
  where
    go : (b : Bool) → filter test (put lt a xs) ≡ filter test xs → filter test (cond b (a ∷ x ∷ xs) (x ∷ put lt a xs)) ≡ filter test (x ∷ xs)
    go true rest = ap (λ b. cond b (a ∷ filter test (x ∷ xs)) (filter test (x ∷ xs))) h
    go false rest = ap (λ l. cond (test x) (x ∷ l) l) rest

-- of a list in order nothing stands before an earlier part
pub parts_in_order : {A : Type 0} (lt : A → A → Bool) (gs ws : List A) → IsRising lt (gs ++ ws) → All (λ g. All (λ w. lt w g ≡ false) ws) gs
parts_in_order lt [] ws h = All-nil (λ g. All (λ w. lt w g ≡ false) ws)
parts_in_order lt (g ∷ gs) ws h =
    All-cons (λ g. All (λ w. lt w g ≡ false) ws) g gs
    (none_pass (λ w. lt w g) ws (or_parts (list_any (λ w. lt w g) gs) (list_any (λ w. lt w g) ws) (sym (list_any-append (λ w. lt w g) gs ws) ∙ h.0)).1)
    (parts_in_order lt gs ws h.1)

pub rest_rises : {A : Type 0} (lt : A → A → Bool) (gs ws : List A) → IsRising lt (gs ++ ws) → IsRising lt ws
rest_rises lt [] ws h = h
rest_rises lt (g ∷ gs) ws h = rest_rises lt gs ws h.1

-- ---- Access units

abbrev pub aus : List Judged → List ℕ
aus ds = map (λ (d : Judged). au d.fact) ds

-- those of pictures that pass are among others
pub aus_among : (test : Judged → Bool) (ns : List ℕ) (ds : List Judged) → All (λ (d : Judged). test d ≡ true → is_among ns (au d.fact) ≡ true) ds → (n : ℕ) → is_among (aus (filter test ds)) n ≡ true → is_among ns n ≡ true
aus_among test ns [] all n h = absurd (let wrong : false ≡ true = h in cc)
aus_among test ns (d ∷ ds) all n h = go (test d) refl h (aus_among test ns ds (All-tail (λ (d : Judged). test d ≡ true → is_among ns (au d.fact) ≡ true) d ds all) n)
  where
    last : test d ≡ true → (nat_eq (au d.fact) n ≡ true) ⊎ (is_among (aus (filter test ds)) n ≡ true) → (is_among (aus (filter test ds)) n ≡ true → is_among ns n ≡ true) → is_among ns n ≡ true
    last is (inl e) rest = ap (is_among ns) (sym (eqb-true (au d.fact) n e)) ∙ All-head (λ (d : Judged). test d ≡ true → is_among ns (au d.fact) ≡ true) d ds all is
    last is (inr e) rest = rest e

    go : (b : Bool) → test d ≡ b → is_among (aus (cond b (d ∷ filter test ds) (filter test ds))) n ≡ true → (is_among (aus (filter test ds)) n ≡ true → is_among ns n ≡ true) → is_among ns n ≡ true
    go true is h rest = last is (or_cases (nat_eq (au d.fact) n) (is_among (aus (filter test ds)) n) h) rest
    go false is h rest = rest h

-- each that passes is among them
pub own_among : (test : Judged → Bool) (ds : List Judged) → All (λ (d : Judged). test d ≡ true → is_among (aus (filter test ds)) (au d.fact) ≡ true) ds
own_among test [] = All-nil (λ (d : Judged). test d ≡ true → is_among [] (au d.fact) ≡ true)
own_among test (e ∷ ds) = go (test e) refl (own_among test ds)
  where
    Own : List Judged → Judged → Type 0
    Own es d = test d ≡ true → is_among (aus es) (au d.fact) ≡ true

    go : (b : Bool) → test e ≡ b → All (Own (filter test ds)) ds → All (Own (cond b (e ∷ filter test ds) (filter test ds))) (e ∷ ds)
    go true is rest =
        All-cons (Own (e ∷ filter test ds)) e ds (λ _. or_left (nat_eq (au e.fact) (au e.fact)) (is_among (aus (filter test ds)) (au e.fact)) (eq-eqb (au e.fact) (au e.fact) refl))
        (All-weaker (Own (filter test ds)) (Own (e ∷ filter test ds)) (λ d own passes. or_right (nat_eq (au e.fact) (au d.fact)) (is_among (aus (filter test ds)) (au d.fact)) (own passes)) ds rest)
    go false is rest = All-cons (Own (filter test ds)) e ds (λ other. absurd (let wrong : true ≡ false = sym other ∙ is in cc)) rest

-- fewer pictures are of no more access units
pub fewer_units : (test other : Judged → Bool) (ds : List Judged) → ((d : Judged) → test d ≡ true → other d ≡ true) → units (filter test ds) ≤ units (filter other ds)
fewer_units test other ds to =
    fewer_distinct (aus (filter test ds)) (aus (filter other ds))
    (aus_among test (aus (filter other ds)) ds
    (All-weaker (λ (d : Judged). other d ≡ true → is_among (aus (filter other ds)) (au d.fact) ≡ true) (λ (d : Judged). test d ≡ true → is_among (aus (filter other ds)) (au d.fact) ≡ true) (λ d own passes. own (to d passes)) ds (own_among other ds)))

pub distinct_more : (n : ℕ) (ns : List ℕ) → length (distinct (n ∷ ns)) ≤ suc (length (distinct ns))
unfolding distinct
distinct_more n ns = go (is_among ns n)
  where
    go : (b : Bool) → length (cond b (distinct ns) (n ∷ distinct ns)) ≤ suc (length (distinct ns))
    go true = omega arith
    go false = omega arith

pub distinct_new : (n : ℕ) (ns : List ℕ) → is_among ns n ≡ false → length (distinct (n ∷ ns)) ≡ suc (length (distinct ns))
unfolding distinct
distinct_new n ns h = ap (λ b. length (cond b (distinct ns) (n ∷ distinct ns))) h

-- ---- Shared access units

-- each of some pictures shares its access unit with them
pub own_shared : (ds : List Judged) → All (λ (d : Judged). shares ds d ≡ true) ds
own_shared [] = All-nil (λ (d : Judged). shares [] d ≡ true)
own_shared (e ∷ ds) =
    All-cons (λ (d : Judged). shares (e ∷ ds) d ≡ true) e ds (or_left (in_au (au e.fact) e) (shares ds e) (eq-eqb (au e.fact) (au e.fact) refl))
    (All-weaker (λ (d : Judged). shares ds d ≡ true) (λ (d : Judged). shares (e ∷ ds) d ≡ true) (λ d own. or_right (in_au (au d.fact) e) (shares ds d) own) ds (own_shared ds))

-- an access unit that is shared is none of those that aren't
pub shared_apart : (early : Judged → Bool) (shown ds : List Judged) (n : ℕ) → list_any (in_au n) shown ≡ true → is_among (aus (filter (λ (d : Judged). early d && not (shares shown d)) ds)) n ≡ false
shared_apart early shown [] n h = refl
shared_apart early shown (d ∷ ds) n h = go (early d && not (shares shown d)) refl (shared_apart early shown ds n h)
  where
    rest : List Judged
    rest = filter (λ (d : Judged). early d && not (shares shown d)) ds

    other : (b : Bool) → nat_eq (au d.fact) n ≡ b → (early d && not (shares shown d)) ≡ true → b ≡ false
    other false e is = refl
    other true e is =
        absurd (let wrong : false ≡ true = sym (ap (λ m. early d && not (list_any (in_au m) shown)) (eqb-true (au d.fact) n e) ∙ ap (λ b. early d && not b) h ∙ and_right (early d) false refl) ∙ is in cc)

    go : (b : Bool) → (early d && not (shares shown d)) ≡ b → is_among (aus rest) n ≡ false → is_among (aus (cond b (d ∷ rest) rest)) n ≡ false
    go true is none = or_from (nat_eq (au d.fact) n) (is_among (aus rest) n) (other (nat_eq (au d.fact) n) refl is) none
    go false is none = none
