-- What waits and what has left: together they are the history in order where no element came late.
use Rattle.std.proofs.Common.{◌≡◌, ◌⊎◌, inl, inr, ℕ, suc, ◌<◌, ◌≤◌, ◌+◌, Bool, true, false, cond, ◌||◌, List, [], ◌∷◌, ◌++◌, filter, length, refl, ap, sym, subst, ◌∙◌, append_assoc, length-append, arith}
use Rattle.std.specs.Prelude.{nat_lt}
use Rattle.std.specs.List.{list_any}
use Rattle.std.proofs.lemmas.Bool.{cases_lt, lt-ltb, le-ltb, ltb-true, ltb-false}
use Rattle.mv_history.specs.Order.{IsNeverAbove, IsOrder, put, sorted, leaving, staying, waits, gone, is_above}
use Rattle.mv_history.proofs.Sorts.{IsRising, length-put, count-sorted, all_above, sorted-rising, put-append}

pub leaving-staying : {A : Type 0} (reorder : ℕ) (xs : List A) → leaving reorder xs ++ staying reorder xs ≡ xs
unfolding leaving staying
leaving-staying reorder [] = refl
leaving-staying reorder (x ∷ xs) = go (nat_lt reorder (length (x ∷ xs))) (leaving-staying reorder xs)
  where
    go : (b : Bool) → leaving reorder xs ++ staying reorder xs ≡ xs → cond b (x ∷ leaving reorder xs) [] ++ cond b (staying reorder xs) (x ∷ xs) ≡ x ∷ xs
    go true rest = ap (λ ys. x ∷ ys) rest
    go false rest = refl

pub length-staying : {A : Type 0} (reorder : ℕ) (xs : List A) → length (staying reorder xs) ≤ reorder
unfolding staying
length-staying reorder [] = omega arith
length-staying reorder (x ∷ xs) = go (nat_lt reorder (length (x ∷ xs))) refl (length-staying reorder xs)
  where
    go : (b : Bool) → nat_lt reorder (length (x ∷ xs)) ≡ b → length (staying reorder xs) ≤ reorder → length (cond b (staying reorder xs) (x ∷ xs)) ≤ reorder
    go true e rest = rest
    go false e rest = ltb-false reorder (length (x ∷ xs)) e

-- at most that many wait
pub length-waits : {A : Type 0} (reorder : ℕ) (lt : A → A → Bool) (past : List A) → length (waits reorder lt past) ≤ reorder
unfolding waits
length-waits reorder lt [] = omega arith
length-waits reorder lt (a ∷ past) = length-staying reorder (put lt a (waits reorder lt past))

-- nothing left, or that many wait
abbrev pub IsFull : {A : Type 0} → ℕ → List A → List A → Type 0
IsFull reorder gs ws = (gs ≡ []) ⊎ (reorder ≤ length ws)

staying-full : {A : Type 0} (reorder : ℕ) (xs : List A) → reorder ≤ length xs → reorder ≤ length (staying reorder xs)
unfolding staying
staying-full reorder [] h = h
staying-full reorder (x ∷ xs) h = go (nat_lt reorder (length (x ∷ xs))) refl (staying-full reorder xs)
  where
    go : (b : Bool) → nat_lt reorder (length (x ∷ xs)) ≡ b → (reorder ≤ length xs → reorder ≤ length (staying reorder xs)) → reorder ≤ length (cond b (staying reorder xs) (x ∷ xs))
    go true e rest = let more : reorder < length (x ∷ xs) = ltb-true reorder (length (x ∷ xs)) e in rest (omega arith)
    go false e rest = h

leaving-none : {A : Type 0} (reorder : ℕ) (xs : List A) → length xs ≤ reorder → leaving reorder xs ≡ []
unfolding leaving
leaving-none reorder [] h = refl
leaving-none reorder (x ∷ xs) h = ap (λ b. cond b (x ∷ leaving reorder xs) []) (le-ltb reorder (length (x ∷ xs)) h)

full-step : {A : Type 0} (reorder : ℕ) (gs ws xs : List A) → length xs ≡ suc (length ws) → IsFull reorder gs ws → IsFull reorder (gs ++ leaving reorder xs) (staying reorder xs)
full-step reorder gs ws xs more full = go (cases_lt (length xs) reorder) full
  where
    go : (length xs < reorder) ⊎ (reorder ≤ length xs) → IsFull reorder gs ws → IsFull reorder (gs ++ leaving reorder xs) (staying reorder xs)
    go (inr many) full = inr (staying-full reorder xs many)
    go (inl few) (inl none) = inl (ap (λ gs. gs ++ leaving reorder xs) none ∙ leaving-none reorder xs (omega arith))
    go (inl few) (inr many) = absurd (omega (arith, more))

waits-full : {A : Type 0} (reorder : ℕ) (lt : A → A → Bool) (past : List A) → IsFull reorder (gone reorder lt past) (waits reorder lt past)
unfolding waits gone
waits-full reorder lt [] = inl refl
waits-full reorder lt (a ∷ past) =
    full-step reorder (gone reorder lt past) (waits reorder lt past) (put lt a (waits reorder lt past)) (length-put lt a (waits reorder lt past)) (waits-full reorder lt past)

length-kept : {A : Type 0} (test : A → Bool) (xs : List A) → length (filter test xs) ≤ length xs
length-kept test [] = omega arith
length-kept test (x ∷ xs) = go (test x) (length-kept test xs)
  where
    go : (b : Bool) → length (filter test xs) ≤ length xs → length (cond b (x ∷ filter test xs) (filter test xs)) ≤ suc (length xs)
    go true rest = omega arith
    go false rest = omega arith

-- an element comes late exactly where it stands before one that has left
above_is_late : {A : Type 0} (reorder : ℕ) (lt : A → A → Bool) → IsOrder lt → (a : A) (ws : List A) → length ws ≤ reorder → (gs : List A) → IsRising lt (gs ++ ws) →
    IsFull reorder gs ws → nat_lt reorder (length (filter (lt a) (gs ++ ws))) ≡ list_any (lt a) gs
above_is_late reorder lt order a ws few [] rises full =
    let kept : length (filter (lt a) ws) ≤ length ws = length-kept (lt a) ws in
    le-ltb reorder (length (filter (lt a) ws)) (omega arith)
above_is_late reorder lt order a ws few (g ∷ gs) rises full = go (lt a g) refl full (above_is_late reorder lt order a ws few gs rises.1)
  where
    go : (b : Bool) → lt a g ≡ b → IsFull reorder (g ∷ gs) ws → (IsFull reorder gs ws → nat_lt reorder (length (filter (lt a) (gs ++ ws))) ≡ list_any (lt a) gs) →
        nat_lt reorder (length (cond b (g ∷ filter (lt a) (gs ++ ws)) (filter (lt a) (gs ++ ws)))) ≡ (b || list_any (lt a) gs)
    go b e (inl none) rest = absurd (cc)
    go true e (inr many) rest =
        let all : length (filter (lt a) (gs ++ ws)) ≡ length gs + length ws = ap length (all_above lt order a g e (gs ++ ws) rises.0) ∙ length-append gs ws in
        lt-ltb reorder (suc (length (filter (lt a) (gs ++ ws)))) (omega arith)
    go false e (inr many) rest = rest (inr many)

decided : {A : Type 0} (reorder : ℕ) (lt : A → A → Bool) → IsOrder lt → (past : List A) → gone reorder lt past ++ waits reorder lt past ≡ sorted lt past → (a : A) →
    is_above reorder lt past a ≡ list_any (lt a) (gone reorder lt past)
decided reorder lt order past is a =
    ap (nat_lt reorder) (sym (count-sorted lt (lt a) past) ∙ ap (λ xs. length (filter (lt a) xs)) (sym is))
    ∙ above_is_late reorder lt order a (waits reorder lt past) (length-waits reorder lt past) (gone reorder lt past)
    (subst (IsRising lt) (sym is) (sorted-rising lt order past))
    (waits-full reorder lt past)

pub bumped : {A : Type 0} (reorder : ℕ) (lt : A → A → Bool) → IsOrder lt → (past : List A) → IsNeverAbove reorder lt past →
    gone reorder lt past ++ waits reorder lt past ≡ sorted lt past
unfolding gone waits sorted
bumped reorder lt order [] h = refl
bumped reorder lt order (a ∷ past) h = go (bumped reorder lt order past h.1)
  where
    go : gone reorder lt past ++ waits reorder lt past ≡ sorted lt past →
        (gone reorder lt past ++ leaving reorder (put lt a (waits reorder lt past))) ++ staying reorder (put lt a (waits reorder lt past)) ≡ put lt a (sorted lt past)
    go is =
        append_assoc (gone reorder lt past) (leaving reorder (put lt a (waits reorder lt past))) (staying reorder (put lt a (waits reorder lt past)))
        ∙ ap (λ xs. gone reorder lt past ++ xs) (leaving-staying reorder (put lt a (waits reorder lt past)))
        ∙ sym (put-append lt a (gone reorder lt past) (waits reorder lt past) (sym (decided reorder lt order past is a) ∙ h.0))
        ∙ ap (put lt a) is

pub late_is_before : {A : Type 0} (reorder : ℕ) (lt : A → A → Bool) → IsOrder lt → (past : List A) → IsNeverAbove reorder lt past → (a : A) →
    is_above reorder lt past a ≡ list_any (lt a) (gone reorder lt past)
late_is_before reorder lt order past h a = decided reorder lt order past (bumped reorder lt order past h) a
