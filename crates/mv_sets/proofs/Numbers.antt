-- Numbered lists: of those that some tests find the one with the greatest number is the first that any of them finds.
use Rattle.std.proofs.Common.{◌≡◌, ℕ, ◌+◌, ◌<◌, ◌≤◌, Bool, true, false, cond, ◌&&◌, ◌||◌, List, [], ◌∷◌, length, Option, Some, None, refl, ap, sym, ◌∙◌, arith, suc}
use Rattle.std.specs.Prelude.{⊤, filter_map, option_map, option_and_then, nat_lt}
use Rattle.std.specs.List.{cons_option, find, list_any}
use Rattle.std.proofs.lemmas.Bool.{false≢true, cond-false, cond-true, le-ltb, lt-ltb, or_parts}
use Rattle.mv_syntax.specs.Words.{◌otherwise◌}
use Rattle.mv_sets.specs.Numbered.{Numbered}
use Rattle.mv_sets.specs.Store.{numbered, with_number}
use Rattle.mv_sets.specs.Tables.{later, latest_from}

-- ---- Whichever is later

abbrev pub Below : {A : Type 0} → ℕ → Option (Numbered A) → Type 0
Below n None = ⊤
Below n (Some m) = m.number ≤ n

below_step : {A : Type 0} (n : ℕ) (o : Option (Numbered A)) → Below n o → Below (suc n) o
below_step n None h = tt
below_step n (Some m) h = omega (arith, h)

below-find : {A : Type 0} (test : Numbered A → Bool) (xs : List A) → Below (length xs) (find test (numbered xs))
unfolding numbered
below-find test [] = tt
below-find test (x ∷ xs) = go (below-find test xs) (test (record { number = length xs + 1; set = x }))
  where
    go : Below (length xs) (find test (numbered xs)) → (b : Bool) → Below (suc (length xs)) (cond b (Some (record { number = length xs + 1; set = x })) (find test (numbered xs)))
    go rest true = omega arith
    go rest false = below_step (length xs) (find test (numbered xs)) rest

-- the greatest is kept
later-top : {A : Type 0} (n : Numbered A) (k : ℕ) (o : Option (Numbered A)) → k < n.number → Below k o → later (Some n) o ≡ Some n
later-top n k None h below = refl
later-top n k (Some m) h below = ap Some (cond-false (nat_lt n.number m.number) m n (le-ltb n.number m.number (omega (arith, h, below))))

later-same : {A : Type 0} (n : Numbered A) → later (Some n) (Some n) ≡ Some n
later-same n = ap Some (go (nat_lt n.number n.number))
  where
    go : (b : Bool) → cond b n n ≡ n
    go true = refl
    go false = refl

later-rises : {A : Type 0} (n : Numbered A) (k : ℕ) (o : Option (Numbered A)) → k < n.number → Below k o → later o (Some n) ≡ Some n
later-rises n k None h below = refl
later-rises n k (Some m) h below = ap Some (cond-true (nat_lt m.number n.number) n m (lt-ltb m.number n.number (omega (arith, h, below))))

later-below : {A : Type 0} (k : ℕ) (a b : Option (Numbered A)) → Below k a → Below k b → Below k (later a b)
later-below k None b h g = g
later-below k (Some a) None h g = h
later-below k (Some a) (Some b) h g = go (nat_lt a.number b.number)
  where
    go : (t : Bool) → (cond t b a).number ≤ k
    go true = g
    go false = h

-- ---- The latest

pub latest_from-same : {A : Type 0} (f g : ℕ → Option (Numbered A)) → ((layer : ℕ) → f layer ≡ g layer) → (best : Option (Numbered A)) (layers : List ℕ) → latest_from f best layers ≡ latest_from g best layers
unfolding latest_from
latest_from-same f g h best [] = refl
latest_from-same f g h best (layer ∷ layers) = ap (λ o. latest_from f (later best o) layers) (h layer) ∙ latest_from-same f g h (later best (g layer)) layers

latest_from-none : {A : Type 0} (layers : List ℕ) → latest_from {A = A} (λ layer. None) None layers ≡ None
unfolding latest_from
latest_from-none [] = refl
latest_from-none {A = A} (layer ∷ layers) = latest_from-none {A = A} layers

later-map : {A B : Type 0} (v : A → B) (a b : Option (Numbered A)) → option_map (with_number v) (later a b) ≡ later (option_map (with_number v) a) (option_map (with_number v) b)
later-map v None b = refl
later-map v (Some a) None = refl
later-map v (Some a) (Some b) = ap Some (go (nat_lt a.number b.number))
  where
    go : (t : Bool) → with_number v (cond t b a) ≡ cond t (with_number v b) (with_number v a)
    go true = refl
    go false = refl

pub latest_from-map : {A B : Type 0} (v : A → B) (f : ℕ → Option (Numbered A)) (best : Option (Numbered A)) (layers : List ℕ) →
    option_map (with_number v) (latest_from f best layers) ≡ latest_from (λ layer. option_map (with_number v) (f layer)) (option_map (with_number v) best) layers
unfolding latest_from
latest_from-map v f best [] = refl
latest_from-map v f best (layer ∷ layers) =
    latest_from-map v f (later best (f layer)) layers
    ∙ ap (λ o. latest_from (λ layer. option_map (with_number v) (f layer)) o layers) (later-map v best (f layer))

module _ {A : Type 0} (test : ℕ → Numbered A → Bool) (x : A) (xs : List A) where
  abbrev n : Numbered A
  n = record { number = length xs + 1; set = x }

  abbrev before : ℕ → Option (Numbered A)
  before layer = find (test layer) (numbered xs)

  abbrev now : ℕ → Option (Numbered A)
  now layer = cond (test layer n) (Some n) (before layer)

  under : length xs < n.number
  under = omega arith

  stays : (layers : List ℕ) → latest_from now (Some n) layers ≡ Some n
  unfolding latest_from
  stays [] = refl
  stays (layer ∷ layers) = ap (λ o. latest_from now o layers) (go (test layer n)) ∙ stays layers
    where
      go : (b : Bool) → later (Some n) (cond b (Some n) (before layer)) ≡ Some n
      go true = later-same n
      go false = later-top n (length xs) (before layer) under (below-find (test layer) xs)

  rises : (best : Option (Numbered A)) → Below (length xs) best → (layers : List ℕ) → list_any (λ layer. test layer n) layers ≡ true → latest_from now best layers ≡ Some n
  unfolding latest_from
  rises best below [] h = absurd (false≢true h)
  rises best below (layer ∷ layers) h = go (rises (later best (before layer)) (later-below (length xs) best (before layer) below (below-find (test layer) xs)) layers) (test layer n) h
    where
      go : (list_any (λ layer. test layer n) layers ≡ true → latest_from now (later best (before layer)) layers ≡ Some n) → (b : Bool) → (b || list_any (λ layer. test layer n) layers) ≡ true → latest_from now (later best (cond b (Some n) (before layer))) layers ≡ Some n
      go rest true h = ap (λ o. latest_from now o layers) (later-rises n (length xs) best under below) ∙ stays layers
      go rest false h = rest h

  skips : (best : Option (Numbered A)) (layers : List ℕ) → list_any (λ layer. test layer n) layers ≡ false → latest_from now best layers ≡ latest_from before best layers
  unfolding latest_from
  skips best [] h = refl
  skips best (layer ∷ layers) h =
      let parts = or_parts (test layer n) (list_any (λ layer. test layer n) layers) h in
      ap (λ o. latest_from now (later best o) layers) (cond-false (test layer n) (Some n) (before layer) parts.0) ∙ skips (later best (before layer)) layers parts.1

  one_more : (layers : List ℕ) → latest_from before None layers ≡ find (λ m. list_any (λ layer. test layer m) layers) (numbered xs) →
      latest_from now None layers ≡ cond (list_any (λ layer. test layer n) layers) (Some n) (find (λ m. list_any (λ layer. test layer m) layers) (numbered xs))
  one_more layers h = go (list_any (λ layer. test layer n) layers) refl
    where
      go : (b : Bool) → list_any (λ layer. test layer n) layers ≡ b → latest_from now None layers ≡ cond b (Some n) (find (λ m. list_any (λ layer. test layer m) layers) (numbered xs))
      go true e = rises None tt layers e
      go false e = skips None layers e ∙ h

-- of those found by the tests for some layers the greatest is the first that one of them finds
pub latest-first : {A : Type 0} (test : ℕ → Numbered A → Bool) (xs : List A) (layers : List ℕ) →
    latest_from (λ layer. find (test layer) (numbered xs)) None layers ≡ find (λ m. list_any (λ layer. test layer m) layers) (numbered xs)
unfolding numbered
latest-first {A = A} test [] layers = latest_from-none {A = A} layers
latest-first test (x ∷ xs) layers = one_more test x xs layers (latest-first test xs layers)

-- ---- Lists without numbers

pub find-same : {A : Type 0} (f g : A → Bool) → ((a : A) → f a ≡ g a) → (xs : List A) → find f xs ≡ find g xs
find-same f g h [] = refl
find-same f g h (x ∷ xs) = ap (λ b. cond b (Some x) (find f xs)) (h x) ∙ ap (cond (g x) (Some x)) (find-same f g h xs)

pub find-numbered : {A : Type 0} (test : A → Bool) (xs : List A) → option_map (λ (m : Numbered A). m.set) (find (λ (m : Numbered A). test m.set) (numbered xs)) ≡ find test xs
unfolding numbered
find-numbered test [] = refl
find-numbered {A = A} test (x ∷ xs) = go (find-numbered test xs) (test x)
  where
    go : option_map (λ (m : Numbered A). m.set) (find (λ (m : Numbered A). test m.set) (numbered xs)) ≡ find test xs → (b : Bool) → option_map (λ (m : Numbered A). m.set) (cond b (Some (record { number = length xs + 1; set = x })) (find (λ (m : Numbered A). test m.set) (numbered xs))) ≡ cond b (Some x) (find test xs)
    go rest true = refl
    go rest false = rest

pub find-filter_map : {F A : Type 0} (unit : F → Option A) (test : A → Bool) (fs : List F) →
    find test (filter_map unit fs) ≡ option_and_then unit (find (λ f. option_map test (unit f) otherwise false) fs)
find-filter_map unit test [] = refl
find-filter_map {F = F} {A = A} unit test (f ∷ fs) = go (find-filter_map unit test fs) (unit f) refl
  where
    Rest : Type 0
    Rest = find test (filter_map unit fs) ≡ option_and_then unit (find (λ f. option_map test (unit f) otherwise false) fs)

    found : Rest → (a : A) (b : Bool) → unit f ≡ Some a → cond b (Some a) (find test (filter_map unit fs)) ≡ option_and_then unit (cond b (Some f) (find (λ f. option_map test (unit f) otherwise false) fs))
    found rest a true e = sym e
    found rest a false e = rest

    go : Rest → (o : Option A) → unit f ≡ o →
        find test (cons_option o (filter_map unit fs)) ≡ option_and_then unit (cond (option_map test o otherwise false) (Some f) (find (λ f. option_map test (unit f) otherwise false) fs))
    go rest None e = rest
    go rest (Some a) e = found rest a (test a) e

pub any-and : (test : ℕ → Bool) (b : Bool) (layers : List ℕ) → list_any (λ layer. test layer && b) layers ≡ (list_any test layers && b)
any-and test b [] = refl
any-and test b (layer ∷ layers) = ap (λ c. (test layer && b) || c) (any-and test b layers) ∙ go (test layer) (list_any test layers) b
  where
    go : (p q r : Bool) → ((p && r) || (q && r)) ≡ ((p || q) && r)
    go true true true = refl
    go true false true = refl
    go false q r = refl
    go true true false = refl
    go true false false = refl
