-- Loops of a table that fill one list or two.
use Rattle.std.specs.Prelude.{◌≡◌, ℕ, ◌+◌, List, [], ◌∷◌, length, ℤ, refl}
use Rattle.std.proofs.Common.{ap}
use Rattle.mv_syntax.specs.Table.{Table, u, ue, se, repeat, shaped}

-- a list of pairs as two lists, and back
abbrev pub unzipped : {A B : Type 0} → List (A × B) → List A × List B
unzipped [] = ([], [])
unzipped (x ∷ xs) = (x.0 ∷ (unzipped xs).0, x.1 ∷ (unzipped xs).1)

abbrev pub both_lists : {A B : Type 0} → List A → List B → List (A × B)
both_lists [] bs = []
both_lists (a ∷ others) [] = []
both_lists (a ∷ others) (b ∷ bs) = (a, b) ∷ both_lists others bs

abbrev pub zipped : {A B : Type 0} → List A × List B → List (A × B)
zipped lists = both_lists lists.0 lists.1

pub zipped-unzipped : {A B : Type 0} (xs : List (A × B)) → zipped (unzipped xs) ≡ xs
zipped-unzipped [] = refl
zipped-unzipped (x ∷ xs) = ap (λ l. x ∷ l) (zipped-unzipped xs)

-- a loop of n turns from index `first` that fills one list; its body has the index
unfoldable pub items : {A : Type 0} → ℕ → ℕ → (ℕ → Table A) → Table (List A)
items first n t = repeat (λ turn. first + turn) n (λ before. t (first + length before))

-- the same, where the body has the items before too
unfoldable pub items_after : {A : Type 0} → ℕ → ℕ → (ℕ → List A → Table A) → Table (List A)
items_after first n t = repeat (λ turn. first + turn) n (λ before. t (first + length before) before)

-- a loop of n turns that fills one list, where turn k has the index that the numbering gives it; its body has the turn
unfoldable pub items_numbered : {A : Type 0} → (ℕ → ℕ) → ℕ → (ℕ → Table A) → Table (List A)
items_numbered index n t = repeat index n (λ before. t (length before))

-- a loop of n turns from index `first` that fills two lists, an item of each in each turn; its body has the index
unfoldable pub columns : {A B : Type 0} → ℕ → ℕ → (ℕ → Table (A × B)) → Table (List A × List B)
columns first n t = shaped unzipped zipped zipped-unzipped (repeat (λ turn. first + turn) n (λ before. t (first + length before)))

-- the same, where the body has the items before of both lists too
unfoldable pub columns_after : {A B : Type 0} → ℕ → ℕ → (ℕ → List A → List B → Table (A × B)) → Table (List A × List B)
columns_after first n t =
    shaped unzipped zipped zipped-unzipped
    (repeat (λ turn. first + turn) n (λ before. t (first + length before) (unzipped before).0 (unzipped before).1))

-- the same field in each turn of a loop
unfoldable pub each : {A : Type 0} → Table A → ℕ → Table A
each t turn = t

-- loops of single fields from index `first` on
abbrev pub us : ℕ → ℕ → ℕ → Table (List ℕ)
us first n width = items first n (each (u width))

abbrev pub ues : ℕ → ℕ → Table (List ℕ)
ues first n = items first n (each ue)

abbrev pub ses : ℕ → ℕ → Table (List ℤ)
ses first n = items first n (each se)
