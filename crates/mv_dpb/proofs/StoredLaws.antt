-- What is told of pictures, beside the pictures: its parts, one picture more, and the pictures that stay.
use Rattle.std.proofs.Common.{◌≡◌, ℕ, zero, suc, ◌<◌, ◌≤◌, List, [], ◌∷◌, ◌++◌, length, map, get_or, refl, ap, sym, ◌∙◌, arith}
use Rattle.std.specs.Prelude.{Option, Some, None, MatchOption, All, slice_get, option_map}
use Rattle.std.specs.List.{HoldsAt, cons_option}
use Rattle.std.proofs.lemmas.List.{length-map}
use Rattle.std.proofs.lemmas.List.Elements.{All-head, All-tail}
use Rattle.mv_dpb.specs.declared.held.Held.{Held}
use Rattle.mv_dpb.specs.declared.held.Keep.{Keep}
use Rattle.mv_dpb.specs.Stored.{stored}
use Rattle.mv_dpb.specs.Buffer.{kept, marked, marks, picked}

pub told-stored : {K P : Type 0} (held : List K) (pictures : List P) → length held ≡ length pictures → map (λ s. s.told) (stored held pictures) ≡ held
told-stored [] pictures e = refl
told-stored (h ∷ held) [] e = absurd (omega arith)
told-stored (h ∷ held) (p ∷ pictures) e = ap (λ hs. h ∷ hs) (told-stored held pictures (omega arith))

pub length-stored : {K P : Type 0} (held : List K) (pictures : List P) → length held ≡ length pictures → length (stored held pictures) ≡ length held
length-stored [] pictures e = refl
length-stored (h ∷ held) [] e = absurd (omega arith)
length-stored (h ∷ held) (p ∷ pictures) e = ap suc (length-stored held pictures (omega arith))

pub picture-stored : {K P : Type 0} (held : List K) (pictures : List P) (i : ℕ) → length held ≡ length pictures → option_map (λ s. s.picture) (slice_get (stored held pictures) i) ≡ slice_get pictures i
picture-stored [] [] i e = refl
picture-stored [] (p ∷ pictures) i e = absurd (omega arith)
picture-stored (h ∷ held) [] i e = absurd (omega arith)
picture-stored (h ∷ held) (p ∷ pictures) zero e = refl
picture-stored (h ∷ held) (p ∷ pictures) (suc i) e = picture-stored held pictures i (omega arith)

pub stored-push : {K P : Type 0} (held : List K) (pictures : List P) (h : K) (p : P) → length held ≡ length pictures → stored (held ++ h ∷ []) (pictures ++ p ∷ []) ≡ stored held pictures ++ record { told = h; picture = p } ∷ []
stored-push [] [] h p e = refl
stored-push [] (q ∷ pictures) h p e = absurd (omega arith)
stored-push (g ∷ held) [] h p e = absurd (omega arith)
stored-push (g ∷ held) (q ∷ pictures) h p e = ap (λ xs. record { told = g; picture = q } ∷ xs) (stored-push held pictures h p (omega arith))

-- an item at a place within a list
pub slice_get-within : {A : Type 0} (xs : List A) (i : ℕ) → i < length xs → (x : A) × (slice_get xs i ≡ Some x)
slice_get-within [] i h = absurd (omega arith)
slice_get-within (x ∷ xs) zero h = (x, refl)
slice_get-within (x ∷ xs) (suc i) h = slice_get-within xs i (omega arith)

slice_get-past : {A : Type 0} (xs : List A) (i : ℕ) → length xs ≤ i → slice_get xs i ≡ None
slice_get-past [] i h = refl
slice_get-past (x ∷ xs) zero h = absurd (omega arith)
slice_get-past (x ∷ xs) (suc i) h = slice_get-past xs i (omega arith)

pub slice_get-get_or : {A : Type 0} (xs : List A) (i : ℕ) (d : A) → i < length xs → slice_get xs i ≡ Some (get_or xs i d)
slice_get-get_or [] i d h = absurd (omega arith)
slice_get-get_or (x ∷ xs) zero d h = refl
slice_get-get_or (x ∷ xs) (suc i) d h = slice_get-get_or xs i d (omega arith)

pub slice_get-map : {A B : Type 0} (f : A → B) (xs : List A) (i : ℕ) → slice_get (map f xs) i ≡ option_map f (slice_get xs i)
slice_get-map f [] i = refl
slice_get-map f (x ∷ xs) zero = refl
slice_get-map f (x ∷ xs) (suc i) = slice_get-map f xs i

stored-at : {K P : Type 0} (held : List K) (pictures : List P) (i : ℕ) (h : K) (p : P) → slice_get held i ≡ Some h → slice_get pictures i ≡ Some p → slice_get (stored held pictures) i ≡ Some (record { told = h; picture = p })
stored-at [] pictures i h p e f = cc
stored-at (g ∷ held) [] i h p e f = cc
stored-at (g ∷ held) (q ∷ pictures) zero h p e f = cc
stored-at (g ∷ held) (q ∷ pictures) (suc i) h p e f = stored-at held pictures i h p e f

cons-map : {A B : Type 0} (f : A → B) (o : Option A) (xs : List A) (ys : List B) → ys ≡ map f xs → cons_option (option_map f o) ys ≡ map f (cons_option o xs)
cons-map f None xs ys e = e
cons-map f (Some x) xs ys e = ap (λ zs. f x ∷ zs) e

pub picked-map : {A B : Type 0} (f : A → B) (keep : List Keep) (xs : List A) → picked keep (map f xs) ≡ map f (picked keep xs)
picked-map f [] xs = refl
picked-map f (k ∷ keep) xs = ap (λ o. cons_option o (picked keep (map f xs))) (slice_get-map f xs k.place) ∙ cons-map f (slice_get xs k.place) (picked keep xs) (picked keep (map f xs)) (picked-map f keep xs)

-- the pictures that stay, by the two lists
pub stored-kept : {P : Type 0} (keep : List Keep) (held : List Held) (pictures : List P) → length held ≡ length pictures → All (λ k. k.place < length held) keep →
    stored (marks keep (picked keep held)) (picked keep pictures) ≡ kept keep (stored held pictures)
stored-kept [] held pictures e within = refl
stored-kept (k ∷ keep) held pictures e within =
    let here : k.place < length held = All-head (λ k. k.place < length held) k keep within in
    let h = slice_get-within held k.place here in
    let p = slice_get-within pictures k.place (omega arith) in
    rw (h.1, p.1, stored-at held pictures k.place h.0 p.0 h.1 p.1)
    (ap (λ xs. record { told = marked k.long h.0; picture = p.0 } ∷ xs) (stored-kept keep held pictures e (All-tail (λ k. k.place < length held) k keep within)))

-- an item that was looked up
pub looked_up : {P Q B : Type 0} (f : Q → P) (now : B → Q) (xs : List Q) (i : ℕ) (o : Option B) →
    MatchOption o (length xs ≤ i) (λ x. (i < length xs) × HoldsAt (λ y. now x ≡ y) xs i) → option_map (λ x. f (now x)) o ≡ slice_get (map f xs) i
looked_up f now xs i None h = sym (slice_get-past (map f xs) i (omega (arith, length-map xs f)))
looked_up f now xs i (Some x) h =
    ap (λ y. Some (f y)) (h.1 (now x)) ∙ sym (slice_get-map f xs i ∙ ap (option_map f) (slice_get-get_or xs i (now x) h.0))
