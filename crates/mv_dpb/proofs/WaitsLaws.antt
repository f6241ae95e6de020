-- Output order, and how many access units wait.
use Rattle.std.proofs.Common.{◌≡◌, ℕ, suc, ◌≤◌, Bool, true, false, cond, ◌||◌, ◌&&◌, List, [], ◌∷◌, length, map, refl, ap, sym, ◌∙◌, arith}
use Rattle.std.specs.Prelude.{ℤ, int_lt, nat_lt, nat_eq}
use Rattle.std.specs.Ordering.{int_eq}
use Rattle.std.specs.List.{list_any}
use Rattle.std.proofs.lemmas.Bool.{or_parts, or_from, true≢false}
use Rattle.std.proofs.lemmas.Int.{ints}
use Rattle.mv_history.specs.Order.{IsOrder, put}
use Rattle.mv_dpb.specs.declared.waits.Waits.{Waits}
use Rattle.mv_dpb.specs.Waits.{AreInOrder, access_units, begun_with, comes_first, is_of}

abbrev order : ℤ → ℕ → ℕ → ℤ → ℕ → ℕ → Bool
order x m i y n j = int_lt x y || (int_eq x y && (nat_lt m n || (nat_eq m n && nat_lt i j)))

one_way : (x y : ℤ) (m n i j : ℕ) → order x m i y n j ≡ true → order y n j x m i ≡ false
one_way x y m n i j h = grind (arith, ints)

carries : (x y z : ℤ) (m n o i j k : ℕ) → order x m i y n j ≡ true → order z o k y n j ≡ false → order x m i z o k ≡ true
carries x y z m n o i j k h l = grind (arith, ints)

pub output_order : IsOrder comes_first
output_order =
    record {
      one_way = λ a b. one_way a.shown.count b.shown.count a.au b.au a.shown.layer b.shown.layer;
      carries = λ a b c. carries a.shown.count b.shown.count c.shown.count a.au b.au c.au a.shown.layer b.shown.layer c.shown.layer;
    }

-- an access unit is counted once
pub same : (m n : ℕ) → nat_eq m n ≡ nat_eq n m
same m n = grind arith

or_swap : (x y z : Bool) → (x || (y || z)) ≡ (y || (x || z))
or_swap true true z = refl
or_swap true false z = refl
or_swap false true z = refl
or_swap false false z = refl

pub any-put : {A : Type 0} (lt : A → A → Bool) (test : A → Bool) (a : A) (xs : List A) → list_any test (put lt a xs) ≡ (test a || list_any test xs)
unfolding put
any-put lt test a [] = refl
any-put lt test a (x ∷ xs) = go (lt a x) (any-put lt test a xs)
  where
    go : (b : Bool) → list_any test (put lt a xs) ≡ (test a || list_any test xs) → list_any test (cond b (a ∷ x ∷ xs) (x ∷ put lt a xs)) ≡ (test a || (test x || list_any test xs))
    go true e = refl
    go false e = ap (λ b. test x || b) e ∙ or_swap (test x) (test a) (list_any test xs)

-- two pictures are counted alike in either order: e where they are of one access unit, and then p and q are equal
alike : (e p q : Bool) (n : ℕ) → (e ≡ true → p ≡ q) → cond (e || q) (cond p n (suc n)) (suc (cond p n (suc n))) ≡ cond (e || p) (cond q n (suc n)) (suc (cond q n (suc n)))
alike true true true n h = refl
alike true true false n h = absurd (true≢false (h refl))
alike true false true n h = absurd (true≢false (sym (h refl)))
alike true false false n h = refl
alike false true true n h = refl
alike false true false n h = refl
alike false false true n h = refl
alike false false false n h = refl

equal : (m n : ℕ) → nat_eq m n ≡ true → m ≡ n
equal m n h = grind arith

pub units-put : (w : Waits) (waits : List Waits) → access_units (put comes_first w waits) ≡ access_units (w ∷ waits)
unfolding put
units-put w [] = refl
units-put w (x ∷ waits) = go (comes_first w x) (units-put w waits)
  where
    go : (b : Bool) → access_units (put comes_first w waits) ≡ access_units (w ∷ waits) → access_units (cond b (w ∷ x ∷ waits) (x ∷ put comes_first w waits)) ≡ access_units (w ∷ x ∷ waits)
    go true e = refl
    go false e =
        ap (λ b. cond b (access_units (put comes_first w waits)) (suc (access_units (put comes_first w waits)))) (any-put comes_first (is_of x.au) w waits)
        ∙ ap (λ n. cond (nat_eq w.au x.au || list_any (is_of x.au) waits) n (suc n)) e
        ∙ ap (λ b. cond (b || list_any (is_of x.au) waits) (access_units (w ∷ waits)) (suc (access_units (w ∷ waits)))) (same w.au x.au)
        ∙ alike (nat_eq x.au w.au) (list_any (is_of w.au) waits) (list_any (is_of x.au) waits) (access_units waits) (λ h. ap (λ n. list_any (is_of n) waits) (sym (equal x.au w.au h)))

pub any-begun : (au n : ℕ) (waits : List Waits) → list_any (is_of n) (map (begun_with au) waits) ≡ list_any (is_of n) waits
any-begun au n [] = refl
any-begun au n (w ∷ waits) = ap (λ b. is_of n w || b) (any-begun au n waits)

pub units-begun : (au : ℕ) (waits : List Waits) → access_units (map (begun_with au) waits) ≡ access_units waits
units-begun au [] = refl
units-begun au (w ∷ waits) =
    ap (λ b. cond b (access_units (map (begun_with au) waits)) (suc (access_units (map (begun_with au) waits)))) (any-begun au w.au waits)
    ∙ ap (λ n. cond (list_any (is_of w.au) waits) n (suc n)) (units-begun au waits)

pub units-few : (waits : List Waits) → access_units waits ≤ length waits
units-few [] = omega arith
units-few (w ∷ waits) = go (list_any (is_of w.au) waits) (units-few waits)
  where
    go : (b : Bool) → access_units waits ≤ length waits → cond b (access_units waits) (suc (access_units waits)) ≤ suc (length waits)
    go true h = omega arith
    go false h = omega arith

-- pictures stay in order
none_before : (w x : Waits) (waits : List Waits) → comes_first w x ≡ true → list_any (λ other. comes_first other x) waits ≡ false → list_any (λ other. comes_first other w) waits ≡ false
none_before w x [] h none = refl
none_before w x (y ∷ waits) h none =
    let parts = or_parts (comes_first y x) (list_any (λ other. comes_first other x) waits) none in
    or_from (comes_first y w) (list_any (λ other. comes_first other w) waits) (go (comes_first y w) refl parts.0) (none_before w x waits h parts.1)
  where
    go : (b : Bool) → comes_first y w ≡ b → comes_first y x ≡ false → b ≡ false
    go false e f = refl
    go true e f = absurd (true≢false (sym (output_order.carries y w x e (output_order.one_way w x h)) ∙ f))

pub order-put : (w : Waits) (waits : List Waits) → AreInOrder waits → AreInOrder (put comes_first w waits)
unfolding put
order-put w [] h = (refl, tt)
order-put w (x ∷ waits) h = go (comes_first w x) refl (order-put w waits h.1)
  where
    go : (b : Bool) → comes_first w x ≡ b → AreInOrder (put comes_first w waits) → AreInOrder (cond b (w ∷ x ∷ waits) (x ∷ put comes_first w waits))
    go true e rest = (or_from (comes_first x w) (list_any (λ other. comes_first other w) waits) (output_order.one_way w x e) (none_before w x waits e h.0), h)
    go false e rest = (any-put comes_first (λ other. comes_first other x) w waits ∙ or_from (comes_first w x) (list_any (λ other. comes_first other x) waits) e h.0, rest)

pub order-begun : (au : ℕ) (waits : List Waits) → AreInOrder waits → AreInOrder (map (begun_with au) waits)
order-begun au [] h = h
order-begun au (w ∷ waits) h = (none w waits ∙ h.0, order-begun au waits h.1)
  where
    none : (w : Waits) (waits : List Waits) → list_any (λ other. comes_first other (begun_with au w)) (map (begun_with au) waits) ≡ list_any (λ other. comes_first other w) waits
    none w [] = refl
    none w (x ∷ waits) = ap (λ b. comes_first x w || b) (none w waits)
