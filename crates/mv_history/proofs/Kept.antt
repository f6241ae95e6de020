-- What is asked of a list and of its kept elements is the same where the question concerns kept elements alone.
use Rattle.std.proofs.Common.{◌≡◌, Bool, true, false, cond, ◌&&◌, ◌||◌, List, [], ◌∷◌, filter, map, All, None, Some, refl, ap, sym, ◌∙◌}
use Rattle.std.specs.Prelude.{option_map, slice_index_or}
use Rattle.std.proofs.lemmas.List.Elements.{All-nil, All-cons, All-head, All-tail}
use Rattle.std.specs.List.{find, list_all, list_any}
use Rattle.mv_history.specs.History.{Keeps, since, from}

-- of an element that isn't kept, and so doesn't pass
pub fails : (t k : Bool) → (t ≡ true → k ≡ true) → k ≡ false → t ≡ false
fails true k h e = absurd (let no : true ≡ false = sym (h refl) ∙ e in cc)
fails false k h e = refl

pub filter_twice : {A : Type 0} (kept : A → Bool) (xs : List A) → filter kept (filter kept xs) ≡ filter kept xs
filter_twice kept [] = refl
filter_twice kept (x ∷ xs) = go (kept x) refl (filter_twice kept xs)
  where
    go : (b : Bool) → kept x ≡ b → filter kept (filter kept xs) ≡ filter kept xs → filter kept (cond b (x ∷ filter kept xs) (filter kept xs)) ≡ cond b (x ∷ filter kept xs) (filter kept xs)
    go true e rest = ap (λ b. cond b (x ∷ filter kept (filter kept xs)) (filter kept (filter kept xs))) e ∙ ap (λ ys. x ∷ ys) rest
    go false e rest = rest

pub find-filter : {A : Type 0} (test kept : A → Bool) (xs : List A) → Keeps test kept xs → find test (filter kept xs) ≡ find test xs
find-filter test kept [] h = refl
find-filter test kept (x ∷ xs) h =
    go (kept x) refl (All-head (λ x. test x ≡ true → kept x ≡ true) x xs h)
    (find-filter test kept xs (All-tail (λ x. test x ≡ true → kept x ≡ true) x xs h))
  where
    go : (b : Bool) → kept x ≡ b → (test x ≡ true → kept x ≡ true) → find test (filter kept xs) ≡ find test xs → find test (cond b (x ∷ filter kept xs) (filter kept xs)) ≡ cond (test x) (Some x) (find test xs)
    go true e f rest = ap (cond (test x) (Some x)) rest
    go false e f rest = rest ∙ sym (ap (λ b. cond b (Some x) (find test xs)) (fails (test x) (kept x) f e))

pub filter-filter : {A : Type 0} (test kept : A → Bool) (xs : List A) → Keeps test kept xs → filter test (filter kept xs) ≡ filter test xs
filter-filter test kept [] h = refl
filter-filter test kept (x ∷ xs) h =
    go (kept x) refl (All-head (λ x. test x ≡ true → kept x ≡ true) x xs h)
    (filter-filter test kept xs (All-tail (λ x. test x ≡ true → kept x ≡ true) x xs h))
  where
    go : (b : Bool) → kept x ≡ b → (test x ≡ true → kept x ≡ true) → filter test (filter kept xs) ≡ filter test xs → filter test (cond b (x ∷ filter kept xs) (filter kept xs)) ≡ cond (test x) (x ∷ filter test xs) (filter test xs)
    go true e f rest = ap (λ ys. cond (test x) (x ∷ ys) ys) rest
    go false e f rest = rest ∙ sym (ap (λ b. cond b (x ∷ filter test xs) (filter test xs)) (fails (test x) (kept x) f e))

pub list_any-filter : {A : Type 0} (test kept : A → Bool) (xs : List A) → Keeps test kept xs → list_any test (filter kept xs) ≡ list_any test xs
list_any-filter test kept [] h = refl
list_any-filter test kept (x ∷ xs) h =
    go (kept x) refl (All-head (λ x. test x ≡ true → kept x ≡ true) x xs h)
    (list_any-filter test kept xs (All-tail (λ x. test x ≡ true → kept x ≡ true) x xs h))
  where
    go : (b : Bool) → kept x ≡ b → (test x ≡ true → kept x ≡ true) → list_any test (filter kept xs) ≡ list_any test xs → list_any test (cond b (x ∷ filter kept xs) (filter kept xs)) ≡ (test x || list_any test xs)
    go true e f rest = ap (λ b. test x || b) rest
    go false e f rest = rest ∙ sym (ap (λ b. b || list_any test xs) (fails (test x) (kept x) f e))

-- filters in either order
pub filter_swap : {A : Type 0} (test kept : A → Bool) (xs : List A) → filter test (filter kept xs) ≡ filter kept (filter test xs)
filter_swap test kept [] = refl
filter_swap test kept (x ∷ xs) = go (kept x) (test x) refl refl (filter_swap test kept xs)
  where
    go : (k t : Bool) → kept x ≡ k → test x ≡ t → filter test (filter kept xs) ≡ filter kept (filter test xs) → filter test (cond k (x ∷ filter kept xs) (filter kept xs)) ≡ filter kept (cond t (x ∷ filter test xs) (filter test xs))
    go true true e f rest =
        ap (λ b. cond b (x ∷ filter test (filter kept xs)) (filter test (filter kept xs))) f
        ∙ ap (λ ys. x ∷ ys) rest
        ∙ sym (ap (λ b. cond b (x ∷ filter kept (filter test xs)) (filter kept (filter test xs))) e)
    go true false e f rest = ap (λ b. cond b (x ∷ filter test (filter kept xs)) (filter test (filter kept xs))) f ∙ rest
    go false true e f rest = rest ∙ sym (ap (λ b. cond b (x ∷ filter kept (filter test xs)) (filter kept (filter test xs))) e)
    go false false e f rest = rest

-- what came after the latest that passes
pub since-filter : {A : Type 0} (test kept : A → Bool) (xs : List A) → Keeps test kept xs → since test (filter kept xs) ≡ filter kept (since test xs)
unfolding since
since-filter test kept [] h = refl
since-filter test kept (x ∷ xs) h =
    go (kept x) (test x) refl refl (All-head (λ x. test x ≡ true → kept x ≡ true) x xs h)
    (since-filter test kept xs (All-tail (λ x. test x ≡ true → kept x ≡ true) x xs h))
  where
    go : (k t : Bool) → kept x ≡ k → test x ≡ t → (test x ≡ true → kept x ≡ true) → since test (filter kept xs) ≡ filter kept (since test xs) → since test (cond k (x ∷ filter kept xs) (filter kept xs)) ≡ filter kept (cond t [] (x ∷ since test xs))
    go true true e f h rest = ap (λ b. cond b [] (x ∷ since test (filter kept xs))) f
    go true false e f h rest =
        ap (λ b. cond b [] (x ∷ since test (filter kept xs))) f
        ∙ ap (λ ys. x ∷ ys) rest
        ∙ sym (ap (λ b. cond b (x ∷ filter kept (since test xs)) (filter kept (since test xs))) e)
    go false true e f h rest = absurd (let no : true ≡ false = sym f ∙ fails (test x) (kept x) h e in cc)
    go false false e f h rest = rest ∙ sym (ap (λ b. cond b (x ∷ filter kept (since test xs)) (filter kept (since test xs))) e)

pub from-filter : {A : Type 0} (test kept : A → Bool) (xs : List A) → Keeps test kept xs → from test (filter kept xs) ≡ filter kept (from test xs)
unfolding from
from-filter test kept [] h = refl
from-filter test kept (x ∷ xs) h =
    go (kept x) (test x) refl refl (All-head (λ x. test x ≡ true → kept x ≡ true) x xs h)
    (from-filter test kept xs (All-tail (λ x. test x ≡ true → kept x ≡ true) x xs h))
  where
    go : (k t : Bool) → kept x ≡ k → test x ≡ t → (test x ≡ true → kept x ≡ true) → from test (filter kept xs) ≡ filter kept (from test xs) → from test (cond k (x ∷ filter kept xs) (filter kept xs)) ≡ filter kept (cond t (x ∷ []) (x ∷ from test xs))
    go true true e f h rest =
        ap (λ b. cond b (x ∷ []) (x ∷ from test (filter kept xs))) f
        ∙ sym (ap (λ b. cond b (x ∷ []) []) e)
    go true false e f h rest =
        ap (λ b. cond b (x ∷ []) (x ∷ from test (filter kept xs))) f
        ∙ ap (λ ys. x ∷ ys) rest
        ∙ sym (ap (λ b. cond b (x ∷ filter kept (from test xs)) (filter kept (from test xs))) e)
    go false true e f h rest = absurd (let no : true ≡ false = sym f ∙ fails (test x) (kept x) h e in cc)
    go false false e f h rest = rest ∙ sym (ap (λ b. cond b (x ∷ filter kept (from test xs)) (filter kept (from test xs))) e)

-- two tests that agree at the elements
pub find_agree : {A : Type 0} (p q : A → Bool) (xs : List A) → All (λ x. p x ≡ q x) xs → find p xs ≡ find q xs
find_agree p q [] h = refl
find_agree p q (x ∷ xs) h =
    ap (λ b. cond b (Some x) (find p xs)) (All-head (λ x. p x ≡ q x) x xs h)
    ∙ ap (cond (q x) (Some x)) (find_agree p q xs (All-tail (λ x. p x ≡ q x) x xs h))

pub filter_agree_at : {A : Type 0} (p q : A → Bool) (xs : List A) → All (λ x. p x ≡ q x) xs → filter p xs ≡ filter q xs
filter_agree_at p q [] h = refl
filter_agree_at p q (x ∷ xs) h =
    ap (λ b. cond b (x ∷ filter p xs) (filter p xs)) (All-head (λ x. p x ≡ q x) x xs h)
    ∙ ap (λ ys. cond (q x) (x ∷ ys) ys) (filter_agree_at p q xs (All-tail (λ x. p x ≡ q x) x xs h))

pub map_agree_at : {A B : Type 0} (f g : A → B) (xs : List A) → All (λ x. f x ≡ g x) xs → map f xs ≡ map g xs
map_agree_at f g [] h = refl
map_agree_at f g (x ∷ xs) h =
    ap (λ y. y ∷ map f xs) (All-head (λ x. f x ≡ g x) x xs h)
    ∙ ap (λ ys. g x ∷ ys) (map_agree_at f g xs (All-tail (λ x. f x ≡ g x) x xs h))

pub list_all_agree_at : {A : Type 0} (p q : A → Bool) (xs : List A) → All (λ x. p x ≡ q x) xs → list_all p xs ≡ list_all q xs
list_all_agree_at p q [] h = refl
list_all_agree_at p q (x ∷ xs) h =
    ap (λ b. b && list_all p xs) (All-head (λ x. p x ≡ q x) x xs h)
    ∙ ap (λ b. q x && b) (list_all_agree_at p q xs (All-tail (λ x. p x ≡ q x) x xs h))

-- a filter of a map
pub filter-map : {A B : Type 0} (f : A → B) (test : B → Bool) (xs : List A) → filter test (map f xs) ≡ map f (filter (λ x. test (f x)) xs)
filter-map f test [] = refl
filter-map f test (x ∷ xs) = go (test (f x)) (filter-map f test xs)
  where
    go : (b : Bool) → filter test (map f xs) ≡ map f (filter (λ x. test (f x)) xs) → cond b (f x ∷ filter test (map f xs)) (filter test (map f xs)) ≡ map f (cond b (x ∷ filter (λ x. test (f x)) xs) (filter (λ x. test (f x)) xs))
    go true rest = ap (λ ys. f x ∷ ys) rest
    go false rest = rest

-- what is found passes
pub find_passes : {A : Type 0} (test : A → Bool) (xs : List A) (y : A) → find test xs ≡ Some y → test y ≡ true
find_passes test [] y h = absurd (cc)
find_passes test (x ∷ xs) y h = go (test x) refl h (find_passes test xs y)
  where
    go : (b : Bool) → test x ≡ b → cond b (Some x) (find test xs) ≡ Some y → (find test xs ≡ Some y → test y ≡ true) → test y ≡ true
    go true e h rest = let same : x ≡ y = cc in ap test (sym same) ∙ e
    go false e h rest = rest h

-- what is found is found among the kept too, where it is kept itself
pub find-found : {A : Type 0} (test kept : A → Bool) (xs : List A) (y : A) → find test xs ≡ Some y → kept y ≡ true → find test (filter kept xs) ≡ Some y
find-found test kept [] y h stays = absurd (cc)
find-found test kept (x ∷ xs) y h stays = go (test x) refl (kept x) refl h (find-found test kept xs y)
  where
    go : (b : Bool) → test x ≡ b → (k : Bool) → kept x ≡ k → cond b (Some x) (find test xs) ≡ Some y →
        (find test xs ≡ Some y → kept y ≡ true → find test (filter kept xs) ≡ Some y) → find test (cond k (x ∷ filter kept xs) (filter kept xs)) ≡ Some y
    go true e true f h rest = ap (λ b. cond b (Some x) (find test (filter kept xs))) e ∙ h
    go true e false f h rest = absurd (let same : x ≡ y = cc in let wrong : true ≡ false = sym stays ∙ ap kept (sym same) ∙ f in cc)
    go false e true f h rest = ap (λ b. cond b (Some x) (find test (filter kept xs))) e ∙ rest h stays
    go false e false f h rest = rest h stays

-- questions to elements told in other terms
pub find-map : {A B : Type 0} (f : A → B) (test : B → Bool) (xs : List A) → find test (map f xs) ≡ option_map f (find (λ x. test (f x)) xs)
find-map f test [] = refl
find-map f test (x ∷ xs) = go (test (f x)) (find-map f test xs)
  where
    go : (b : Bool) → find test (map f xs) ≡ option_map f (find (λ x. test (f x)) xs) → cond b (Some (f x)) (find test (map f xs)) ≡ option_map f (cond b (Some x) (find (λ x. test (f x)) xs))
    go true rest = refl
    go false rest = rest

pub since-map : {A B : Type 0} (f : A → B) (test : B → Bool) (xs : List A) → since test (map f xs) ≡ map f (since (λ x. test (f x)) xs)
unfolding since
since-map f test [] = refl
since-map f test (x ∷ xs) = go (test (f x)) (since-map f test xs)
  where
    go : (b : Bool) → since test (map f xs) ≡ map f (since (λ x. test (f x)) xs) → cond b [] (f x ∷ since test (map f xs)) ≡ map f (cond b [] (x ∷ since (λ x. test (f x)) xs))
    go true rest = refl
    go false rest = ap (λ ys. f x ∷ ys) rest

pub from-map : {A B : Type 0} (f : A → B) (test : B → Bool) (xs : List A) → from test (map f xs) ≡ map f (from (λ x. test (f x)) xs)
unfolding from
from-map f test [] = refl
from-map f test (x ∷ xs) = go (test (f x)) (from-map f test xs)
  where
    go : (b : Bool) → from test (map f xs) ≡ map f (from (λ x. test (f x)) xs) → cond b (f x ∷ []) (f x ∷ from test (map f xs)) ≡ map f (cond b (x ∷ []) (x ∷ from (λ x. test (f x)) xs))
    go true rest = refl
    go false rest = ap (λ ys. f x ∷ ys) rest

-- what holds of the elements in other terms
pub All-unmap : {A B : Type 0} (P : B → Type 0) (f : A → B) (xs : List A) → All P (map f xs) → All (λ x. P (f x)) xs
All-unmap P f [] h = All-nil (λ x. P (f x))
All-unmap P f (x ∷ xs) h = All-cons (λ x. P (f x)) x xs (All-head P (f x) (map f xs) h) (All-unmap P f xs (All-tail P (f x) (map f xs) h))

pub All-since : {A : Type 0} (P : A → Type 0) (test : A → Bool) (xs : List A) → All P xs → All P (since test xs)
unfolding since
All-since P test [] h = h
All-since P test (x ∷ xs) h = go (test x) (All-since P test xs (All-tail P x xs h))
  where
    go : (b : Bool) → All P (since test xs) → All P (cond b [] (x ∷ since test xs))
    go true rest = All-nil P
    go false rest = All-cons P x (since test xs) (All-head P x xs h) rest

pub All-both : {A : Type 0} (P Q : A → Type 0) (xs : List A) → All P xs → All Q xs → All (λ x. P x × Q x) xs
All-both P Q xs h k = λ n d low. (h n d low, k n d low)

-- a question is answered alike where the test says less of the kept
pub Keeps-from : {A : Type 0} (P : A → Type 0) (test kept : A → Bool) (xs : List A) → ((x : A) → P x → test x ≡ true → kept x ≡ true) → All P xs → Keeps test kept xs
Keeps-from P test kept xs f h = λ n d low. f (slice_index_or xs n d) (h n d low)

-- what is found before the latest that stops is found at all
pub find-from : {A : Type 0} (test stop : A → Bool) → ((x : A) → stop x ≡ true → test x ≡ true) → (xs : List A) → find test (from stop xs) ≡ find test xs
unfolding from
find-from test stop tests [] = refl
find-from test stop tests (x ∷ xs) = go (stop x) refl (find-from test stop tests xs)
  where
    go : (b : Bool) → stop x ≡ b → find test (from stop xs) ≡ find test xs → find test (cond b (x ∷ []) (x ∷ from stop xs)) ≡ cond (test x) (Some x) (find test xs)
    go true e rest = ap (λ b. cond b (Some x) None) (tests x e) ∙ sym (ap (λ b. cond b (Some x) (find test xs)) (tests x e))
    go false e rest = ap (cond (test x) (Some x)) rest
