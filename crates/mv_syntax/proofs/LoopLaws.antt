-- The steps of loops that read: a loop holds what the rest of its table's loop reads. And what the items of a valid loop are.
use Rattle.std.proofs.Common.{◌≡◌, ℕ, zero, suc, ◌+◌, ◌-◌, ◌<◌, ◌≤◌, Bool, List, [], ◌∷◌, ◌++◌, length, get_or, take, Result, Ok, Err, refl, sym, ap, ◌∙◌, subst, append_assoc, append-nil, arith, length-append}
use Rattle.std.proofs.lemmas.List.{length-take-le}
use Rattle.mv_syntax.specs.Bits.{Fault, kept}
use Rattle.mv_syntax.specs.Bits as bits
use Rattle.mv_syntax.specs.Table.{Table, Valid, EachValid}
use Rattle.mv_syntax.specs.inner.Reader.{read, read_each}
use Rattle.mv_syntax.specs.Loops.{unzipped, both_lists, items, items_after, items_numbered, columns, columns_after}
use Rattle.mv_syntax.specs.inner.Turns.{turns_of_items, turns_of_columns, rest_of_items, rest_of_items_after, rest_of_columns, rest_of_columns_after}

-- ---- the loop as a whole is what its turns read
pub next_index : {A : Type 0} (first i : ℕ) (before : List A) (x : A) → i ≡ first + length before → i + 1 ≡ first + length (before ++ x ∷ [])
next_index first i before x e = rw (length-append before (x ∷ [])) (omega arith)

pub each-turns : {A : Type 0} (t : ℕ → List A → Table A) (first n i : ℕ) (before : List A) (b : List Bool) → i ≡ first + length before
    → read_each (λ so_far c. read (t (first + length so_far) so_far) c) n before b ≡ turns_of_items t n i before b
each-turns t first zero i before b e = refl
each-turns t first (suc n) i before b e =
    rw (← e)
    (ap (bits.◌>>=◌ (read (t i before) b))
    (λ k x. each-turns t first n (i + 1) (before ++ x.0 ∷ []) x.1 (next_index first i before x.0 e) k))

pub unzipped-append : {A B : Type 0} (xs : List (A × B)) (x : A × B) → unzipped (xs ++ x ∷ []) ≡ ((unzipped xs).0 ++ x.0 ∷ [], (unzipped xs).1 ++ x.1 ∷ [])
unzipped-append [] x = refl
unzipped-append (y ∷ xs) x = rw (unzipped-append xs x) refl

pub pairs-turns : {A B : Type 0} (t : ℕ → List A → List B → Table (A × B)) (first n i : ℕ) (before : List (A × B)) (b : List Bool) → i ≡ first + length before
    → kept unzipped (read_each (λ so_far c. read (t (first + length so_far) (unzipped so_far).0 (unzipped so_far).1) c) n before b)
    ≡ turns_of_columns t n i (unzipped before).0 (unzipped before).1 b
pairs-turns t first zero i before b e = refl
pairs-turns {A} {B} t first (suc n) i before b e =
    rw (← e)
    (go (read (t i (unzipped before).0 (unzipped before).1) b)
    (λ y. pairs-turns t first n (i + 1) (before ++ y.0 ∷ []) y.1 (next_index first i before y.0 e)))
  where
    go : (x : Result ((A × B) × List Bool) Fault)
        → ((y : (A × B) × List Bool)
        → kept unzipped (read_each (λ so_far c. read (t (first + length so_far) (unzipped so_far).0 (unzipped so_far).1) c) n (before ++ y.0 ∷ []) y.1)
        ≡ turns_of_columns t n (i + 1) (unzipped (before ++ y.0 ∷ [])).0 (unzipped (before ++ y.0 ∷ [])).1 y.1)
        → kept unzipped (bits.◌>>=◌ x (λ y. read_each (λ so_far c. read (t (first + length so_far) (unzipped so_far).0 (unzipped so_far).1) c) n (before ++ y.0 ∷ []) y.1))
        ≡ bits.◌>>=◌ x (λ y. turns_of_columns t n (i + 1) ((unzipped before).0 ++ y.0.0 ∷ []) ((unzipped before).1 ++ y.0.1 ∷ []) y.1)
    go (Ok y) later = later y ∙ ap (λ l. turns_of_columns t n (i + 1) l.0 l.1 y.1) (unzipped-append before y.0)
    go (Err fault) later = refl

-- ---- reading
pub items_begin : {A : Type 0} (t : ℕ → Table A) (first n end : ℕ) (b : List Bool) → end ≡ first + n → read (items first n t) b ≡ rest_of_items t first end [] b
unfolding items rest_of_items
items_begin t first n end b e =
    let count : end - first ≡ n = omega arith in
    rw count (each-turns (λ j _. t j) first n first [] b (omega arith))

pub items_after_begin : {A : Type 0} (t : ℕ → List A → Table A) (first n end : ℕ) (b : List Bool) → end ≡ first + n → read (items_after first n t) b ≡ rest_of_items_after t first end [] b
unfolding items_after rest_of_items_after
items_after_begin t first n end b e =
    let count : end - first ≡ n = omega arith in
    rw count (each-turns t first n first [] b (omega arith))

pub columns_begin : {A B : Type 0} (t : ℕ → Table (A × B)) (first n end : ℕ) (b : List Bool) → end ≡ first + n → read (columns first n t) b ≡ rest_of_columns t first end [] [] b
unfolding columns rest_of_columns
columns_begin t first n end b e =
    let count : end - first ≡ n = omega arith in
    rw count (pairs-turns (λ j _ _. t j) first n first [] b (omega arith))

pub columns_after_begin : {A B : Type 0} (t : ℕ → List A → List B → Table (A × B)) (first n end : ℕ) (b : List Bool) → end ≡ first + n → read (columns_after first n t) b ≡ rest_of_columns_after t first end [] [] b
unfolding columns_after rest_of_columns_after
columns_after_begin t first n end b e =
    let count : end - first ≡ n = omega arith in
    rw count (pairs-turns t first n first [] b (omega arith))

-- one turn of the count
pub one_more : (i end : ℕ) → i < end → end - i ≡ suc (end - (i + 1))
one_more i end h = omega arith

pub none_left : (i end : ℕ) → end ≤ i → end - i ≡ 0
none_left i end h = omega arith

-- a turn of the rest of a loop, and its end
pub items_turn : {A : Type 0} (t : ℕ → Table A) (i end : ℕ) (before : List A) (b : List Bool) → i < end
    → rest_of_items t i end before b ≡ bits.◌>>=◌ (read (t i) b) (λ x. rest_of_items t (i + 1) end (before ++ x.0 ∷ []) x.1)
unfolding rest_of_items
items_turn t i end before b h = rw (one_more i end h) refl

pub items_done : {A : Type 0} (t : ℕ → Table A) (i end : ℕ) (before : List A) (b : List Bool) → end ≤ i → rest_of_items t i end before b ≡ Ok (before, b)
unfolding rest_of_items
items_done t i end before b h = rw (none_left i end h) refl

pub items_after_turn : {A : Type 0} (t : ℕ → List A → Table A) (i end : ℕ) (before : List A) (b : List Bool) → i < end
    → rest_of_items_after t i end before b ≡ bits.◌>>=◌ (read (t i before) b) (λ x. rest_of_items_after t (i + 1) end (before ++ x.0 ∷ []) x.1)
unfolding rest_of_items_after
items_after_turn t i end before b h = rw (one_more i end h) refl

pub items_after_done : {A : Type 0} (t : ℕ → List A → Table A) (i end : ℕ) (before : List A) (b : List Bool) → end ≤ i → rest_of_items_after t i end before b ≡ Ok (before, b)
unfolding rest_of_items_after
items_after_done t i end before b h = rw (none_left i end h) refl

pub columns_turn : {A B : Type 0} (t : ℕ → Table (A × B)) (i end : ℕ) (ones : List A) (others : List B) (b : List Bool) → i < end
    → rest_of_columns t i end ones others b ≡ bits.◌>>=◌ (read (t i) b) (λ x. rest_of_columns t (i + 1) end (ones ++ x.0.0 ∷ []) (others ++ x.0.1 ∷ []) x.1)
unfolding rest_of_columns
columns_turn t i end ones others b h = rw (one_more i end h) refl

pub columns_done : {A B : Type 0} (t : ℕ → Table (A × B)) (i end : ℕ) (ones : List A) (others : List B) (b : List Bool) → end ≤ i
    → rest_of_columns t i end ones others b ≡ Ok ((ones, others), b)
unfolding rest_of_columns
columns_done t i end ones others b h = rw (none_left i end h) refl

pub columns_after_turn : {A B : Type 0} (t : ℕ → List A → List B → Table (A × B)) (i end : ℕ) (ones : List A) (others : List B) (b : List Bool) → i < end
    → rest_of_columns_after t i end ones others b
    ≡ bits.◌>>=◌ (read (t i ones others) b) (λ x. rest_of_columns_after t (i + 1) end (ones ++ x.0.0 ∷ []) (others ++ x.0.1 ∷ []) x.1)
unfolding rest_of_columns_after
columns_after_turn t i end ones others b h = rw (one_more i end h) refl

pub columns_after_done : {A B : Type 0} (t : ℕ → List A → List B → Table (A × B)) (i end : ℕ) (ones : List A) (others : List B) (b : List Bool) → end ≤ i
    → rest_of_columns_after t i end ones others b ≡ Ok ((ones, others), b)
unfolding rest_of_columns_after
columns_after_done t i end ones others b h = rw (none_left i end h) refl

-- two lists as one
pub both_lists-take : {A B : Type 0} (i : ℕ) (ones : List A) (others : List B) → both_lists (take i ones) (take i others) ≡ take i (both_lists ones others)
both_lists-take zero ones others = refl
both_lists-take (suc i) [] others = refl
both_lists-take (suc i) (a ∷ ones) [] = refl
both_lists-take (suc i) (a ∷ ones) (b ∷ others) = ap (λ l. (a, b) ∷ l) (both_lists-take i ones others)

pub both_lists-at : {A B : Type 0} (ones : List A) (others : List B) (i : ℕ) (d : A) (e : B) → i < length ones → i < length others
    → (i < length (both_lists ones others)) × (get_or (both_lists ones others) i (d, e) ≡ (get_or ones i d, get_or others i e))
both_lists-at [] others i d e h k = absurd (omega arith)
both_lists-at (a ∷ ones) [] i d e h k = absurd (omega arith)
both_lists-at (a ∷ ones) (b ∷ others) zero d e h k = (omega arith, refl)
both_lists-at (a ∷ ones) (b ∷ others) (suc i) d e h k =
    let later : (i < length (both_lists ones others)) × (get_or (both_lists ones others) i (d, e) ≡ (get_or ones i d, get_or others i e)) =
    both_lists-at ones others i d e (omega arith) (omega arith) in
    (omega arith, later.1)

pub unzipped-lengths : {A B : Type 0} (xs : List (A × B)) → (length (unzipped xs).0 ≡ length xs) × (length (unzipped xs).1 ≡ length xs)
unzipped-lengths [] = (refl, refl)
unzipped-lengths (x ∷ xs) = (ap suc (unzipped-lengths xs).0, ap suc (unzipped-lengths xs).1)

pub unzipped-both : {A B : Type 0} (ones : List A) (others : List B) → length ones ≡ length others → unzipped (both_lists ones others) ≡ (ones, others)
unzipped-both [] [] e = refl
unzipped-both [] (b ∷ others) e = cc
unzipped-both (a ∷ ones) [] e = cc
unzipped-both (a ∷ ones) (b ∷ others) e = ap (λ l. (a ∷ l.0, b ∷ l.1)) (unzipped-both ones others (omega arith))

-- ---- valid loops
-- each item of a valid loop is valid at its index
pub each-valid : {A : Type 0} (valid : List A → A → Type 0) (before vs : List A) (i : ℕ) (d : A) → EachValid valid before vs → i < length vs
    → valid (before ++ take i vs) (get_or vs i d)
each-valid valid before [] i d h k = absurd (omega arith)
each-valid valid before (v ∷ vs) zero d h k = rw (append-nil before) h.0
each-valid valid before (v ∷ vs) (suc i) d h k = rw (← append_assoc before (v ∷ []) (take i vs)) (each-valid valid (before ++ v ∷ []) vs i d h.1 (omega arith))

pub items-length : {A : Type 0} (t : ℕ → Table A) (first n : ℕ) (vs : List A) → Valid (items first n t) vs → length vs ≡ n
unfolding items
items-length t first n vs h = h.0

pub items-valid : {A : Type 0} (t : ℕ → Table A) (first n : ℕ) (vs : List A) (i j : ℕ) (d : A) → Valid (items first n t) vs → i < length vs → j ≡ first + i → Valid (t j) (get_or vs i d)
unfolding items
items-valid t first n vs i j d h k e =
    let here : Valid (t (first + length (take i vs))) (get_or vs i d) = each-valid (λ before v. Valid (t (first + length before)) v) [] vs i d h.1 k in
    let same : first + length (take i vs) ≡ j = ap (λ m. first + m) (length-take-le i vs (omega arith)) ∙ sym e in
    subst (λ m. Valid (t m) (get_or vs i d)) same here

pub items_after-length : {A : Type 0} (t : ℕ → List A → Table A) (first n : ℕ) (vs : List A) → Valid (items_after first n t) vs → length vs ≡ n
unfolding items_after
items_after-length t first n vs h = h.0

pub items_after-valid : {A : Type 0} (t : ℕ → List A → Table A) (first n : ℕ) (vs : List A) (i j : ℕ) (d : A) → Valid (items_after first n t) vs → i < length vs → j ≡ first + i
    → Valid (t j (take i vs)) (get_or vs i d)
unfolding items_after
items_after-valid t first n vs i j d h k e =
    let here : Valid (t (first + length (take i vs)) (take i vs)) (get_or vs i d) =
    each-valid (λ before v. Valid (t (first + length before) before) v) [] vs i d h.1 k in
    let same : first + length (take i vs) ≡ j = ap (λ m. first + m) (length-take-le i vs (omega arith)) ∙ sym e in
    subst (λ m. Valid (t m (take i vs)) (get_or vs i d)) same here

pub columns-lengths : {A B : Type 0} (t : ℕ → Table (A × B)) (first n : ℕ) (ones : List A) (others : List B) → Valid (columns first n t) (ones, others) → (length ones ≡ n) × (length others ≡ n)
unfolding columns
columns-lengths t first n ones others h =
    let lengths = unzipped-lengths (both_lists ones others) in
    (sym (ap (λ l. length l.0) h.1) ∙ lengths.0 ∙ h.0.0, sym (ap (λ l. length l.1) h.1) ∙ lengths.1 ∙ h.0.0)

pub columns-valid : {A B : Type 0} (t : ℕ → Table (A × B)) (first n : ℕ) (ones : List A) (others : List B) (i j : ℕ) (d : A) (e : B)
    → Valid (columns first n t) (ones, others) → i < length ones → j ≡ first + i → Valid (t j) (get_or ones i d, get_or others i e)
unfolding columns
columns-valid t first n ones others i j d e h k same =
    let pairs = both_lists ones others in
    let lengths : (length ones ≡ n) × (length others ≡ n) = columns-lengths t first n ones others h in
    let at : (i < length pairs) × (get_or pairs i (d, e) ≡ (get_or ones i d, get_or others i e)) = both_lists-at ones others i d e k (omega arith) in
    let here : Valid (t (first + length (take i pairs))) (get_or pairs i (d, e)) =
    each-valid (λ before v. Valid (t (first + length before)) v) [] pairs i (d, e) h.0.1 at.0 in
    let index : first + length (take i pairs) ≡ j = ap (λ m. first + m) (length-take-le i pairs (omega arith)) ∙ sym same in
    subst (λ v. Valid (t j) v) at.1 (subst (λ m. Valid (t m) (get_or pairs i (d, e))) index here)

-- ---- two lists whose body asks for the items before
pub unzipped-take : {A B : Type 0} (ones : List A) (others : List B) (i : ℕ) → i ≤ length ones → i ≤ length others
    → unzipped (take i (both_lists ones others)) ≡ (take i ones, take i others)
unzipped-take ones others i h k =
    rw (← both_lists-take i ones others) (unzipped-both (take i ones) (take i others) (length-take-le i ones h ∙ sym (length-take-le i others k)))

pub columns_after-lengths : {A B : Type 0} (t : ℕ → List A → List B → Table (A × B)) (first n : ℕ) (ones : List A) (others : List B)
    → Valid (columns_after first n t) (ones, others) → (length ones ≡ n) × (length others ≡ n)
unfolding columns_after
columns_after-lengths t first n ones others h =
    let lengths = unzipped-lengths (both_lists ones others) in
    (sym (ap (λ l. length l.0) h.1) ∙ lengths.0 ∙ h.0.0, sym (ap (λ l. length l.1) h.1) ∙ lengths.1 ∙ h.0.0)

pub columns_after-valid : {A B : Type 0} (t : ℕ → List A → List B → Table (A × B)) (first n : ℕ) (ones : List A) (others : List B) (i j : ℕ) (d : A) (e : B)
    → Valid (columns_after first n t) (ones, others) → i < length ones → j ≡ first + i
    → Valid (t j (take i ones) (take i others)) (get_or ones i d, get_or others i e)
unfolding columns_after
columns_after-valid t first n ones others i j d e h k same =
    let lengths : (length ones ≡ n) × (length others ≡ n) = columns_after-lengths t first n ones others h in
    let at : (i < length (both_lists ones others)) × (get_or (both_lists ones others) i (d, e) ≡ (get_or ones i d, get_or others i e)) =
    both_lists-at ones others i d e k (omega arith) in
    let before : unzipped (take i (both_lists ones others)) ≡ (take i ones, take i others) = unzipped-take ones others i (omega arith) (omega arith) in
    let here : Valid (t (first + length (take i (both_lists ones others))) (unzipped (take i (both_lists ones others))).0 (unzipped (take i (both_lists ones others))).1)
    (get_or (both_lists ones others) i (d, e)) =
    each-valid (λ so_far v. Valid (t (first + length so_far) (unzipped so_far).0 (unzipped so_far).1) v) [] (both_lists ones others) i (d, e) h.0.1 at.0 in
    let index : first + length (take i (both_lists ones others)) ≡ j = ap (λ m. first + m) (length-take-le i (both_lists ones others) (omega arith)) ∙ sym same in
    subst (λ v. Valid (t j (take i ones) (take i others)) v) at.1
    (subst (λ l. Valid (t j l.0 l.1) (get_or (both_lists ones others) i (d, e))) before
    (subst (λ m. Valid (t m (unzipped (take i (both_lists ones others))).0 (unzipped (take i (both_lists ones others))).1) (get_or (both_lists ones others) i (d, e))) index here))

-- ---- a loop with a numbering of its own
pub turn_each : {A : Type 0} (t : ℕ → Table A) (n i : ℕ) (before : List A) (b : List Bool) → i ≡ length before
    → read_each (λ so_far c. read (t (length so_far)) c) n before b ≡ turns_of_items (λ j _. t j) n i before b
turn_each t zero i before b e = refl
turn_each t (suc n) i before b e =
    rw (← e)
    (ap (bits.◌>>=◌ (read (t i) b))
    (λ k x. turn_each t n (i + 1) (before ++ x.0 ∷ []) x.1 (rw (length-append before (x.0 ∷ [])) (omega arith)) k))

pub items_numbered_begin : {A : Type 0} (index : ℕ → ℕ) (t : ℕ → Table A) (n : ℕ) (b : List Bool) → read (items_numbered index n t) b ≡ rest_of_items t 0 n [] b
unfolding items_numbered rest_of_items
items_numbered_begin index t n b =
    let count : n - 0 ≡ n = omega arith in
    rw count (turn_each t n 0 [] b refl)

pub items_numbered-length : {A : Type 0} (index : ℕ → ℕ) (t : ℕ → Table A) (n : ℕ) (vs : List A) → Valid (items_numbered index n t) vs → length vs ≡ n
unfolding items_numbered
items_numbered-length index t n vs h = h.0

pub items_numbered-valid : {A : Type 0} (index : ℕ → ℕ) (t : ℕ → Table A) (n : ℕ) (vs : List A) (i : ℕ) (d : A) → Valid (items_numbered index n t) vs → i < length vs
    → Valid (t i) (get_or vs i d)
unfolding items_numbered
items_numbered-valid index t n vs i d h k =
    subst (λ m. Valid (t m) (get_or vs i d)) (length-take-le i vs (omega arith)) (each-valid (λ before v. Valid (t (length before)) v) [] vs i d h.1 k)

-- the lemmas for a loop that reads one list, or two: how it begins, a turn, and the end
pub ruleset item_steps = (items_begin, items_numbered_begin, items_turn, items_done, items_after_begin, items_after_turn, items_after_done)

pub ruleset column_steps = (columns_begin, columns_turn, columns_done, columns_after_begin, columns_after_turn, columns_after_done)
