-- What is put out of pictures, one after another.
use Rattle.std.proofs.Common.{◌≡◌, ℕ, suc, ◌+◌, List, [], ◌∷◌, ◌++◌, length, take, sym, ap, ◌∙◌, zero-add, arith}
use Rattle.std.proofs.lemmas.List.{append-nil, append_assoc}
use Rattle.std.proofs.lemmas.List.Concat.{flat_map-append}
use Rattle.mv_dpb.specs.declared.shown.Shown.{Shown}
use Rattle.mv_rebuild.specs.Viewing.{text_of}

one_more : {P : Type 0} (text : Shown → P → List ℕ) (pictures : List (Shown × P)) (s : Shown × P) →
    text_of text pictures ++ text s.0 s.1 ≡ text_of text (pictures ++ s ∷ [])
one_more {P} text pictures s =
    sym (flat_map-append (λ (s : Shown × P). text s.0 s.1) pictures (s ∷ []) ∙ ap (λ last. text_of text pictures ++ last) (append-nil (text s.0 s.1)))

past : {A : Type 0} (xs ys : List A) (n : ℕ) → take (length xs + n) (xs ++ ys) ≡ xs ++ take n ys
past [] ys n = ap (λ k. take k ys) (zero-add n)
past (x ∷ xs) ys n =
    let longer : length (x ∷ xs) + n ≡ suc (length xs + n) = omega arith in
    ap (λ k. take k (x ∷ xs ++ ys)) longer ∙ ap (λ rest. x ∷ rest) (past xs ys n)

pub none_is : {P : Type 0} (text : Shown → P → List ℕ) (before : List ℕ) → before ++ text_of text [] ≡ before
none_is text before = append-nil before

pub next_is : {P : Type 0} (text : Shown → P → List ℕ) (before : List ℕ) (pictures : List (Shown × P)) (s : Shown × P) →
    before ++ text_of text pictures ++ text s.0 s.1 ≡ before ++ text_of text (pictures ++ s ∷ [])
next_is text before pictures s =
    append_assoc before (text_of text pictures) (text s.0 s.1) ∙ ap (λ all. before ++ all) (one_more text pictures s)

pub first_is : {P : Type 0} (text : Shown → P → List ℕ) (before : List ℕ) (pictures : List (Shown × P)) (s : Shown × P) (n : ℕ) →
    before ++ text_of text pictures ++ take n (text s.0 s.1)
    ≡ before ++ take (length (text_of text pictures) + n) (text_of text (pictures ++ s ∷ []))
first_is text before pictures s n =
    append_assoc before (text_of text pictures) (take n (text s.0 s.1))
    ∙ ap (λ all. before ++ all)
    (sym (past (text_of text pictures) (text s.0 s.1) n) ∙ ap (take (length (text_of text pictures) + n)) (one_more text pictures s))
