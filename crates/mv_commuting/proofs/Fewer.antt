-- Fewer numbers have no more distinct ones; and the last of a list is the last of what is kept of it, where it is kept.
use Rattle.std.proofs.Common.{◌≡◌, ◌⊎◌, inl, inr, ℕ, suc, ◌≤◌, Bool, true, false, cond, ◌||◌, List, [], ◌∷◌, length, Option, Some, refl, ap, sym, ◌∙◌, filter, map, arith}
use Rattle.std.specs.Prelude.{nat_eq}
use Rattle.std.specs.List.{last_or, list_any}
use Rattle.std.proofs.lemmas.Bool.{eqb-true, eq-eqb, ne_eqb, or_left, or_right, or_cases}
use Rattle.mv_layers.specs.OutputLayers.{is_among}
use Rattle.mv_pictures.specs.Output.{distinct}

-- the numbers other than n
without : ℕ → List ℕ → List ℕ
without n [] = []
without n (x ∷ xs) = cond (nat_eq x n) (without n xs) (x ∷ without n xs)

among_other : (n x : ℕ) (xs : List ℕ) → nat_eq n x ≡ false → is_among (without n xs) x ≡ is_among xs x
unfolding without
among_other n x [] other = refl
among_other n x (y ∷ ys) other = go (nat_eq y n) refl (among_other n x ys other)
  where
    go : (b : Bool) → nat_eq y n ≡ b → is_among (without n ys) x ≡ is_among ys x → is_among (cond b (without n ys) (y ∷ without n ys)) x ≡ (nat_eq y x || is_among ys x)
    go false e rest = ap (λ b. nat_eq y x || b) rest
    go true e rest = rest ∙ ap (λ b. b || is_among ys x) (sym (ap (λ k. nat_eq k x) (eqb-true y n e) ∙ other))

without_none : (n : ℕ) (xs : List ℕ) → is_among xs n ≡ false → without n xs ≡ xs
unfolding without
without_none n [] h = refl
without_none n (x ∷ xs) h = go (nat_eq x n) refl h (without_none n xs)
  where
    go : (b : Bool) → nat_eq x n ≡ b → (b || is_among xs n) ≡ false → (is_among xs n ≡ false → without n xs ≡ xs) → cond b (without n xs) (x ∷ without n xs) ≡ x ∷ xs
    go true e h rest = absurd (let wrong : true ≡ false = h in cc)
    go false e h rest = ap (λ ys. x ∷ ys) (rest h)

distinct_without : (n : ℕ) (xs : List ℕ) → is_among xs n ≡ true → length (distinct xs) ≡ suc (length (distinct (without n xs)))
unfolding without distinct
distinct_without n [] h = absurd (let wrong : true ≡ false = sym h in cc)
distinct_without n (x ∷ xs) h = go (nat_eq x n) refl h (distinct_without n xs)
  where
    first : (b : Bool) → is_among xs x ≡ b → x ≡ n → (is_among xs n ≡ true → length (distinct xs) ≡ suc (length (distinct (without n xs)))) → length (cond b (distinct xs) (x ∷ distinct xs)) ≡ suc (length (distinct (without n xs)))
    first true e same rest = rest (ap (is_among xs) (sym same) ∙ e)
    first false e same rest = ap (λ ys. suc (length (distinct ys))) (sym (without_none n xs (ap (is_among xs) (sym same) ∙ e)))

    other : (b : Bool) → is_among xs x ≡ b → is_among (without n xs) x ≡ b → length (distinct xs) ≡ suc (length (distinct (without n xs))) →
        length (cond b (distinct xs) (x ∷ distinct xs)) ≡ suc (length (cond (is_among (without n xs) x) (distinct (without n xs)) (x ∷ distinct (without n xs))))
    other true e f rest = rest ∙ ap (λ b. suc (length (cond b (distinct (without n xs)) (x ∷ distinct (without n xs))))) (sym f)
    other false e f rest = ap suc rest ∙ ap (λ b. suc (length (cond b (distinct (without n xs)) (x ∷ distinct (without n xs))))) (sym f)

    go : (b : Bool) → nat_eq x n ≡ b → (b || is_among xs n) ≡ true → (is_among xs n ≡ true → length (distinct xs) ≡ suc (length (distinct (without n xs)))) →
        length (cond (is_among xs x) (distinct xs) (x ∷ distinct xs)) ≡ suc (length (distinct (cond b (without n xs) (x ∷ without n xs))))
    go true e h rest = first (is_among xs x) refl (eqb-true x n e) rest
    go false e h rest = other (is_among xs x) refl (among_other n x xs (ne_eqb n x (λ same. let wrong : true ≡ false = sym (eq-eqb x n (sym same)) ∙ e in cc))) (rest h)

-- numbers that are all among others
pub fewer_distinct : (xs ys : List ℕ) → ((n : ℕ) → is_among xs n ≡ true → is_among ys n ≡ true) → length (distinct xs) ≤ length (distinct ys)
unfolding distinct
fewer_distinct [] ys h = omega arith
fewer_distinct (x ∷ xs) ys h = go (is_among xs x) refl (λ zs. fewer_distinct xs zs)
  where
    go : (b : Bool) → is_among xs x ≡ b → ((zs : List ℕ) → ((n : ℕ) → is_among xs n ≡ true → is_among zs n ≡ true) → length (distinct xs) ≤ length (distinct zs)) →
        length (cond b (distinct xs) (x ∷ distinct xs)) ≤ length (distinct ys)
    go true e rest = rest ys (λ n is. h n (or_right (nat_eq x n) (is_among xs n) is))
    go false e rest =
        let some : length (distinct ys) ≡ suc (length (distinct (without x ys))) = distinct_without x ys (h x (or_left (nat_eq x x) (is_among xs x) (eq-eqb x x refl))) in
        let less : length (distinct xs) ≤ length (distinct (without x ys)) = rest (without x ys) (λ n is. among_other x n ys (ne_eqb x n (λ same. let wrong : true ≡ false = sym is ∙ ap (is_among xs) (sym same) ∙ e in cc)) ∙ h n (or_right (nat_eq x n) (is_among xs n) is)) in
        omega (arith, some, less)

-- numbers of the kept are among those of all
pub kept_among : {A : Type 0} (f : A → ℕ) (kept : A → Bool) (xs : List A) (n : ℕ) → is_among (map f (filter kept xs)) n ≡ true → is_among (map f xs) n ≡ true
kept_among f kept [] n h = h
kept_among f kept (x ∷ xs) n h = go (kept x) h (kept_among f kept xs n)
  where
    go : (b : Bool) → is_among (map f (cond b (x ∷ filter kept xs) (filter kept xs))) n ≡ true → (is_among (map f (filter kept xs)) n ≡ true → is_among (map f xs) n ≡ true) → (nat_eq (f x) n || is_among (map f xs) n) ≡ true
    go false h rest = or_right (nat_eq (f x) n) (is_among (map f xs) n) (rest h)
    go true h rest = last (or_cases (nat_eq (f x) n) (is_among (map f (filter kept xs)) n) h)
      where
        last : (nat_eq (f x) n ≡ true) ⊎ (is_among (map f (filter kept xs)) n ≡ true) → (nat_eq (f x) n || is_among (map f xs) n) ≡ true
        last (inl e) = or_left (nat_eq (f x) n) (is_among (map f xs) n) e
        last (inr e) = or_right (nat_eq (f x) n) (is_among (map f xs) n) (rest e)

-- none of the kept passes where none of all does
pub none-filter : {A : Type 0} (test kept : A → Bool) (xs : List A) → list_any test xs ≡ false → list_any test (filter kept xs) ≡ false
none-filter test kept [] h = h
none-filter test kept (x ∷ xs) h = go (kept x) (test x) refl h (none-filter test kept xs)
  where
    go : (k t : Bool) → test x ≡ t → (t || list_any test xs) ≡ false → (list_any test xs ≡ false → list_any test (filter kept xs) ≡ false) → list_any test (cond k (x ∷ filter kept xs) (filter kept xs)) ≡ false
    go k true e h rest = absurd (let wrong : true ≡ false = h in cc)
    go true false e h rest = ap (λ b. b || list_any test (filter kept xs)) e ∙ rest h
    go false false e h rest = rest h

-- the last of a list, and of what is kept
pub last-filter : {A : Type 0} (kept : A → Bool) (before kept_before : Option A) (xs : List A) (y : A) → last_or before xs ≡ Some y → kept y ≡ true → (before ≡ Some y → kept_before ≡ Some y) →
    last_or kept_before (filter kept xs) ≡ Some y
last-filter kept before kept_before [] y h stays same = same h
last-filter {A = A} kept before kept_before (x ∷ xs) y h stays same = go (kept x) refl (λ kb. last-filter kept (Some x) kb xs y h stays)
  where
    go : (b : Bool) → kept x ≡ b → ((kb : Option A) → (Some x ≡ Some y → kb ≡ Some y) → last_or kb (filter kept xs) ≡ Some y) → last_or kept_before (cond b (x ∷ filter kept xs) (filter kept xs)) ≡ Some y
    go true e rest = rest (Some x) (λ is. is)
    go false e rest = rest kept_before (λ is. absurd (let it : x ≡ y = cc in let wrong : true ≡ false = sym stays ∙ ap kept (sym it) ∙ e in cc))
