-- The greatest few decide what is late, and what has left stays.
use Rattle.std.proofs.Common.{◌≡◌, ℕ, suc, ◌<◌, ◌≤◌, ◌+◌, Bool, true, false, cond, ◌||◌, List, [], ◌∷◌, ◌++◌, filter, length, refl, ap, sym, subst, ◌∙◌, append_assoc, length-append, append-nil, arith}
use Rattle.std.specs.Prelude.{nat_lt}
use Rattle.std.specs.List.{list_any}
use Rattle.std.proofs.lemmas.Bool.{or_parts, lt-ltb, ltb-true}
use Rattle.mv_history.specs.Order.{IsNeverAbove, IsOrder, put, sorted, leaving, staying, waits, gone, is_above}
use Rattle.mv_history.proofs.Sorts.{IsRising, length-put, count-sorted, all_above, sorted-rising}
use Rattle.mv_history.proofs.Bumping.{leaving-staying, bumped, late_is_before}

-- what is put before all of a list
put-first : {A : Type 0} (lt : A → A → Bool) → IsOrder lt → (a x : A) → lt a x ≡ true → (xs : List A) → list_any (λ y. lt y x) xs ≡ false → put lt a xs ≡ a ∷ xs
unfolding put
put-first lt order a x above [] h = refl
put-first lt order a x above (y ∷ ys) h =
    let parts : (lt y x ≡ false) × (list_any (λ y. lt y x) ys ≡ false) = or_parts (lt y x) (list_any (λ y. lt y x) ys) h in
    ap (λ b. cond b (a ∷ y ∷ ys) (y ∷ put lt a ys)) (order.carries a x y above parts.0)

staying-more : {A : Type 0} (n : ℕ) (x : A) (xs : List A) → n ≤ length xs → staying n (x ∷ xs) ≡ staying n xs
unfolding staying
staying-more n x xs h = ap (λ b. cond b (staying n xs) (x ∷ xs)) (lt-ltb n (suc (length xs)) (omega arith))

staying-put : {A : Type 0} (lt : A → A → Bool) → IsOrder lt → (n : ℕ) (a : A) (xs : List A) → IsRising lt xs → staying n (put lt a (staying n xs)) ≡ staying n (put lt a xs)
unfolding put staying
staying-put lt order n a [] rises = refl
staying-put lt order n a (x ∷ xs) rises = go (nat_lt n (suc (length xs))) refl (lt a x) refl (staying-put lt order n a xs rises.1)
  where
    go : (b : Bool) → nat_lt n (suc (length xs)) ≡ b → (c : Bool) → lt a x ≡ c → staying n (put lt a (staying n xs)) ≡ staying n (put lt a xs) →
        staying n (put lt a (cond b (staying n xs) (x ∷ xs))) ≡ staying n (cond c (a ∷ x ∷ xs) (x ∷ put lt a xs))
    go false e c f rest = ap (λ c. staying n (cond c (a ∷ x ∷ xs) (x ∷ put lt a xs))) f
    go true e true f rest =
        let many : n < suc (length xs) = ltb-true n (suc (length xs)) e in
        rest
        ∙ ap (staying n) (put-first lt order a x f xs rises.0)
        ∙ staying-more n a xs (omega arith)
        ∙ sym (staying-more n x xs (omega arith))
        ∙ sym (staying-more n a (x ∷ xs) (omega arith))
    go true e false f rest =
        let many : n < suc (length xs) = ltb-true n (suc (length xs)) e in
        let more : length (put lt a xs) ≡ suc (length xs) = length-put lt a xs in
        rest ∙ sym (staying-more n x (put lt a xs) (omega arith))

-- what waits are the last in order, whatever came late
pub waits-staying : {A : Type 0} (n : ℕ) (lt : A → A → Bool) → IsOrder lt → (past : List A) → waits n lt past ≡ staying n (sorted lt past)
unfolding waits sorted staying
waits-staying n lt order [] = refl
waits-staying n lt order (a ∷ past) =
    ap (λ xs. staying n (put lt a xs)) (waits-staying n lt order past) ∙ staying-put lt order n a (sorted lt past) (sorted-rising lt order past)

-- of a list in order, its last elements are enough to see that more than one less stand behind an element
staying-above : {A : Type 0} (reorder : ℕ) (lt : A → A → Bool) → IsOrder lt → (a : A) (xs : List A) → IsRising lt xs →
    is_above reorder lt (staying (suc reorder) xs) a ≡ is_above reorder lt xs a
unfolding staying
staying-above reorder lt order a [] rises = refl
staying-above reorder lt order a (x ∷ xs) rises = go (nat_lt (suc reorder) (suc (length xs))) refl (lt a x) refl (staying-above reorder lt order a xs rises.1)
  where
    go : (b : Bool) → nat_lt (suc reorder) (suc (length xs)) ≡ b → (c : Bool) → lt a x ≡ c → is_above reorder lt (staying (suc reorder) xs) a ≡ is_above reorder lt xs a →
        is_above reorder lt (cond b (staying (suc reorder) xs) (x ∷ xs)) a ≡ nat_lt reorder (length (cond c (x ∷ filter (lt a) xs) (filter (lt a) xs)))
    go false e c f rest = ap (λ c. nat_lt reorder (length (cond c (x ∷ filter (lt a) xs) (filter (lt a) xs)))) f
    go true e false f rest = rest
    go true e true f rest =
        let many : suc reorder < suc (length xs) = ltb-true (suc reorder) (suc (length xs)) e in
        let all : length (filter (lt a) xs) ≡ length xs = ap length (all_above lt order a x f xs rises.0) in
        rest
        ∙ lt-ltb reorder (length (filter (lt a) xs)) (omega arith)
        ∙ sym (lt-ltb reorder (suc (length (filter (lt a) xs))) (omega arith))

pub waits-above : {A : Type 0} (reorder : ℕ) (lt : A → A → Bool) → IsOrder lt → (past : List A) (a : A) → is_above reorder lt (waits (suc reorder) lt past) a ≡ is_above reorder lt past a
waits-above reorder lt order past a =
    ap (λ xs. is_above reorder lt xs a) (waits-staying (suc reorder) lt order past)
    ∙ staying-above reorder lt order a (sorted lt past) (sorted-rising lt order past)
    ∙ ap (nat_lt reorder) (count-sorted lt (lt a) past)

-- what has left stays
pub gone-more : {A : Type 0} (reorder : ℕ) (lt : A → A → Bool) (more past : List A) → (rest : List A) × (gone reorder lt (more ++ past) ≡ gone reorder lt past ++ rest)
unfolding gone
gone-more {A = A} reorder lt [] past = ([], sym (append-nil (gone reorder lt past)))
gone-more {A = A} reorder lt (a ∷ more) past = go (gone-more reorder lt more past)
  where
    go : (rest : List A) × (gone reorder lt (more ++ past) ≡ gone reorder lt past ++ rest) →
        (rest : List A) × (gone reorder lt (more ++ past) ++ leaving reorder (put lt a (waits reorder lt (more ++ past))) ≡ gone reorder lt past ++ rest)
    go (rest, is) = (
      rest ++ leaving reorder (put lt a (waits reorder lt (more ++ past))),
      ap (λ xs. xs ++ leaving reorder (put lt a (waits reorder lt (more ++ past)))) is
          ∙ append_assoc (gone reorder lt past) rest (leaving reorder (put lt a (waits reorder lt (more ++ past)))),
    )

pub gone-sorted : {A : Type 0} (reorder : ℕ) (lt : A → A → Bool) → IsOrder lt → (more past : List A) → IsNeverAbove reorder lt (more ++ past) →
    (rest : List A) × (sorted lt (more ++ past) ≡ gone reorder lt past ++ rest)
gone-sorted {A = A} reorder lt order more past h = go (gone-more reorder lt more past)
  where
    go : (rest : List A) × (gone reorder lt (more ++ past) ≡ gone reorder lt past ++ rest) → (rest : List A) × (sorted lt (more ++ past) ≡ gone reorder lt past ++ rest)
    go (rest, is) = (
      rest ++ waits reorder lt (more ++ past),
      sym (bumped reorder lt order (more ++ past) h)
          ∙ ap (λ xs. xs ++ waits reorder lt (more ++ past)) is
          ∙ append_assoc (gone reorder lt past) rest (waits reorder lt (more ++ past)),
    )

-- nothing is lost
pub gone-waits : {A : Type 0} (reorder : ℕ) (lt : A → A → Bool) (past : List A) → length (gone reorder lt past) + length (waits reorder lt past) ≡ length past
unfolding gone waits
gone-waits {A = A} reorder lt [] = refl
gone-waits {A = A} reorder lt (a ∷ past) =
    let rest : length (gone reorder lt past) + length (waits reorder lt past) ≡ length past = gone-waits reorder lt past in
    let new : List A = put lt a (waits reorder lt past) in
    let parts : length (leaving reorder new) + length (staying reorder new) ≡ length new = sym (length-append (leaving reorder new) (staying reorder new)) ∙ ap length (leaving-staying reorder new) in
    let more : length new ≡ suc (length (waits reorder lt past)) = length-put lt a (waits reorder lt past) in
    let left : length (gone reorder lt past ++ leaving reorder new) ≡ length (gone reorder lt past) + length (leaving reorder new) = length-append (gone reorder lt past) (leaving reorder new) in
    omega arith

-- the last that left decides what comes late
rising-last : {A : Type 0} (lt : A → A → Bool) → IsOrder lt → (a g : A) (gs ws : List A) → IsRising lt ((gs ++ g ∷ []) ++ ws) → list_any (lt a) (gs ++ g ∷ []) ≡ lt a g
rising-last {A = A} lt order a g [] ws rises = go (lt a g)
  where
    go : (b : Bool) → (b || false) ≡ b
    go true = refl
    go false = refl
rising-last {A = A} lt order a g (x ∷ gs) ws rises = go (lt a x) refl (rising-last lt order a g gs ws rises.1)
  where
    at_last : (xs : List A) → list_any (λ y. lt y x) ((xs ++ g ∷ []) ++ ws) ≡ false → lt g x ≡ false
    at_last [] h = (or_parts (lt g x) (list_any (λ y. lt y x) ws) h).0
    at_last (y ∷ ys) h = at_last ys (or_parts (lt y x) (list_any (λ y. lt y x) ((ys ++ g ∷ []) ++ ws)) h).1

    go : (b : Bool) → lt a x ≡ b → list_any (lt a) (gs ++ g ∷ []) ≡ lt a g → (b || list_any (lt a) (gs ++ g ∷ [])) ≡ lt a g
    go true e rest = sym (order.carries a x g e (at_last gs rises.0))
    go false e rest = rest

pub last_decides : {A : Type 0} (reorder : ℕ) (lt : A → A → Bool) → IsOrder lt → (past : List A) → IsNeverAbove reorder lt past → (a g : A) (gs : List A) →
    gone reorder lt past ≡ gs ++ g ∷ [] → is_above reorder lt past a ≡ lt a g
last_decides reorder lt order past h a g gs is =
    late_is_before reorder lt order past h a
    ∙ ap (list_any (lt a)) is
    ∙ rising-last lt order a g gs (waits reorder lt past)
    (subst (λ xs. IsRising lt (xs ++ waits reorder lt past)) is (subst (IsRising lt) (sym (bumped reorder lt order past h)) (sorted-rising lt order past)))

pub none_decides : {A : Type 0} (reorder : ℕ) (lt : A → A → Bool) → IsOrder lt → (past : List A) → IsNeverAbove reorder lt past → (a : A) →
    gone reorder lt past ≡ [] → is_above reorder lt past a ≡ false
none_decides reorder lt order past h a is = late_is_before reorder lt order past h a ∙ ap (list_any (lt a)) is
