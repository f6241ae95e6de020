-- The pictures that wait, by the list of what is told of them and the list of the pictures.
use Rattle.std.proofs.Common.{◌≡◌, ℕ, zero, suc, ◌+◌, ◌≤◌, ◌<◌, Bool, true, false, cond, not, ◌||◌, List, [], ◌∷◌, length, map, drop, get_or, refl, ap, sym, ◌∙◌, arith}
use Rattle.std.specs.Prelude.{insert, nat_lt, All}
use Rattle.std.specs.List.{list_any, position_or_len}
use Rattle.std.proofs.lemmas.Bool.{le-ltb, or_parts}
use Rattle.std.proofs.lemmas.List.Edits.{length-insert}
use Rattle.std.proofs.lemmas.List.Elements.{All-cons, All-nil}
use Rattle.mv_history.specs.Order.{put}
use Rattle.mv_dpb.specs.declared.shown.Shown.{Shown}
use Rattle.mv_dpb.specs.declared.waits.Waits.{Waits}
use Rattle.mv_dpb.specs.Stored.{stored}
use Rattle.mv_dpb.specs.Waits.{AreInOrder, access_units, begun_with, comes_first, is_begun, is_begun_of, is_of}
use Rattle.mv_dpb.specs.Waiting.{FirstIsLeast, WaitingValue, behind_first, may_leave, with_picture, without_first}
use Rattle.mv_dpb.proofs.StoredLaws.{told-stored}
use Rattle.mv_dpb.proofs.WaitsLaws.{any-begun, units-begun, output_order}
use Rattle.mv_dpb.proofs.PutLaws.{put-position}

stored-insert : {K P : Type 0} (told : List K) (pictures : List P) (i : ℕ) (k : K) (p : P) → length told ≡ length pictures →
    stored (insert told i k) (insert pictures i p) ≡ insert (stored told pictures) i (record { told = k; picture = p })
stored-insert [] [] zero k p e = refl
stored-insert [] [] (suc i) k p e = refl
stored-insert [] (q ∷ pictures) i k p e = absurd (omega arith)
stored-insert (l ∷ told) [] i k p e = absurd (omega arith)
stored-insert (l ∷ told) (q ∷ pictures) zero k p e = refl
stored-insert (l ∷ told) (q ∷ pictures) (suc i) k p e = ap (λ xs. record { told = l; picture = q } ∷ xs) (stored-insert told pictures i k p (omega arith))

position-stored : {K P : Type 0} (test : K → Bool) (told : List K) (pictures : List P) → length told ≡ length pictures →
    position_or_len (λ s. test s.told) (stored told pictures) ≡ position_or_len test told
position-stored test [] pictures e = refl
position-stored test (l ∷ told) [] e = absurd (omega arith)
position-stored test (l ∷ told) (q ∷ pictures) e = ap (λ n. cond (not (test l)) (1 + n) 0) (position-stored test told pictures (omega arith))

-- a picture that is put in beside what is told of it
pub stored-put : {P : Type 0} (told : List Waits) (pictures : List P) (w : Waits) (p : P) → length told ≡ length pictures →
    stored (insert told (position_or_len (comes_first w) told) w) (insert pictures (position_or_len (comes_first w) told) p)
    ≡ put (λ a b. comes_first a.told b.told) (record { told = w; picture = p }) (stored told pictures)
stored-put told pictures w p e =
    stored-insert told pictures (position_or_len (comes_first w) told) w p e
    ∙ ap (λ i. insert (stored told pictures) i (record { told = w; picture = p })) (sym (position-stored (comes_first w) told pictures e))
    ∙ put-position (λ a b. comes_first a.told b.told) (record { told = w; picture = p }) (stored told pictures)

stored-begun : {P : Type 0} (au : ℕ) (told : List Waits) (pictures : List P) → stored (map (begun_with au) told) pictures ≡ map (λ t. record { told = begun_with au t.told; picture = t.picture }) (stored told pictures)
stored-begun au [] pictures = refl
stored-begun au (l ∷ told) [] = refl
stored-begun au (l ∷ told) (q ∷ pictures) = ap (λ xs. record { told = begun_with au l; picture = q } ∷ xs) (stored-begun au told pictures)

-- the pictures behind the first
pub stored-rest : {P : Type 0} (told : List Waits) (pictures : List P) (w : Waits) → length told ≡ length pictures → 0 < length told → w ≡ get_or told 0 w →
    stored (map (begun_with w.au) (drop 1 told)) (drop 1 pictures) ≡ behind_first (stored told pictures)
stored-rest [] pictures w e h is = absurd (omega arith)
stored-rest (l ∷ told) [] w e h is = absurd (omega arith)
stored-rest (l ∷ told) (q ∷ pictures) w e h is = ap (λ v. stored (map (begun_with v.au) told) pictures) is ∙ stored-begun l.au told pictures

-- the access units without the first picture
pub units-rest : (told : List Waits) (w : Waits) → 0 < length told → w ≡ get_or told 0 w →
    access_units told ≡ cond (list_any (is_of w.au) (map (begun_with w.au) (drop 1 told))) (access_units (map (begun_with w.au) (drop 1 told))) (suc (access_units (map (begun_with w.au) (drop 1 told))))
units-rest [] w h is = absurd (omega arith)
units-rest (l ∷ told) w h is =
    ap (λ v. access_units (v ∷ told)) (sym is)
    ∙ sym (ap (λ b. cond b (access_units (map (begun_with w.au) told)) (suc (access_units (map (begun_with w.au) told)))) (any-begun w.au w.au told)
    ∙ ap (λ n. cond (list_any (is_of w.au) told) n (suc n)) (units-begun w.au told))

pub order-rest : (told : List Waits) → AreInOrder told → AreInOrder (drop 1 told)
order-rest [] h = h
order-rest (w ∷ told) h = h.1

-- the first picture is the least
pub first-least : {P : Type 0} (told : List Waits) (pictures : List P) → AreInOrder told → FirstIsLeast (stored told pictures)
first-least [] pictures h = tt
first-least (w ∷ told) [] h = tt
first-least {P} (w ∷ told) (p ∷ pictures) h = All-cons (λ t. comes_first t.told w ≡ false) (record { told = w; picture = p }) (stored told pictures) (irreflexive (comes_first w w) refl) (each told pictures h.0)
  where
    irreflexive : (b : Bool) → comes_first w w ≡ b → b ≡ false
    irreflexive false e = refl
    irreflexive true e = sym e ∙ output_order.one_way w w e

    each : (told : List Waits) (pictures : List P) → list_any (λ other. comes_first other w) told ≡ false → All (λ t. comes_first t.told w ≡ false) (stored told pictures)
    each [] pictures h = All-nil (λ t. comes_first t.told w ≡ false)
    each (l ∷ told) [] h = All-nil (λ t. comes_first t.told w ≡ false)
    each (l ∷ told) (q ∷ pictures) h =
        let parts = or_parts (comes_first l w) (list_any (λ other. comes_first other w) told) h in
        All-cons (λ t. comes_first t.told w ≡ false) (record { told = l; picture = q }) (stored told pictures) parts.0 (each told pictures parts.1)

-- whether a picture leaves
pub leaves-is : {P : Type 0} (reorder room : ℕ) (told : List Waits) (pictures : List P) → length told ≡ length pictures →
    may_leave (record { reorder = reorder; room = room; pictures = stored told pictures }) ≡ (nat_lt reorder (access_units told) || list_any is_begun told)
leaves-is reorder room told pictures e = ap (λ ws. nat_lt reorder (access_units ws) || list_any is_begun ws) (told-stored told pictures e)

-- no access unit waits where no picture does
pub none-leaves : {P : Type 0} (w : WaitingValue P) → w.pictures ≡ [] → may_leave w ≡ false
none-leaves w e = ap (λ xs. nat_lt w.reorder (access_units (map (λ s. s.told) xs)) || list_any is_begun (map (λ s. s.told) xs)) e ∙ none w.reorder
  where
    none : (n : ℕ) → (nat_lt n 0 || false) ≡ false
    none n = ap (λ b. b || false) (le-ltb n 0 (omega arith))

pub length-insert-two : {A B : Type 0} (xs : List A) (ys : List B) (i : ℕ) (a : A) (b : B) → length xs ≡ length ys → i ≤ length xs → length (insert xs i a) ≡ length (insert ys i b)
length-insert-two xs ys i a b e h = omega (arith, length-insert xs i a h, length-insert ys i b (omega arith))

pub map-insert : {A B : Type 0} (f : A → B) (xs : List A) (i : ℕ) (a : A) → map f (insert xs i a) ≡ insert (map f xs) i (f a)
map-insert f [] zero a = refl
map-insert f [] (suc i) a = refl
map-insert f (x ∷ xs) zero a = refl
map-insert f (x ∷ xs) (suc i) a = ap (λ ys. f x ∷ ys) (map-insert f xs i a)

pub map-rest : {A B : Type 0} (f : A → B) (xs : List A) → map f (drop 1 xs) ≡ drop 1 (map f xs)
map-rest f [] = refl
map-rest f (x ∷ xs) = refl

-- one picture more
pub push-is : {P : Type 0} (reorder room : ℕ) (told : List Waits) (pictures : List P) (shown : Shown) (au : ℕ) (begun : Bool) (p : P) (place : ℕ) → length told ≡ length pictures →
    begun ≡ list_any (is_begun_of au) told → place ≡ position_or_len (comes_first (record { shown = shown; au = au; begun = begun })) told →
    record { reorder = reorder; room = room; pictures = stored (insert told place (record { shown = shown; au = au; begun = begun })) (insert pictures place p) }
    ≡ with_picture shown au p (record { reorder = reorder; room = room; pictures = stored told pictures })
push-is reorder room told pictures shown au begun p place e b i =
    ap (λ xs. record { reorder = reorder; room = room; pictures = xs })
    (ap (λ n. stored (insert told n (record { shown = shown; au = au; begun = begun })) (insert pictures n p)) i
    ∙ stored-put told pictures (record { shown = shown; au = au; begun = begun }) p e
    ∙ ap (λ c. put (λ a b. comes_first a.told b.told) (record { told = record { shown = shown; au = au; begun = c }; picture = p }) (stored told pictures))
    (b ∙ ap (list_any (is_begun_of au)) (sym (told-stored told pictures e))))

-- one picture less
pub rest-is : {P : Type 0} (reorder room : ℕ) (told : List Waits) (pictures : List P) (w : Waits) → length told ≡ length pictures → 0 < length told → w ≡ get_or told 0 w →
    record { reorder = reorder; room = room; pictures = stored (map (begun_with w.au) (drop 1 told)) (drop 1 pictures) } ≡ without_first (record { reorder = reorder; room = room; pictures = stored told pictures })
rest-is reorder room told pictures w e h is = ap (λ xs. record { reorder = reorder; room = room; pictures = xs }) (stored-rest told pictures w e h is)
