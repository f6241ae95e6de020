-- What is left of a loop at an index, as the code that reads it meets it.
use Rattle.std.specs.Prelude.{ℕ, zero, suc, ◌+◌, ◌-◌, Bool, List, [], ◌∷◌, ◌++◌, Result, Ok}
use Rattle.mv_syntax.specs.Bits.{Fault}
use Rattle.mv_syntax.specs.Bits as bits
use Rattle.mv_syntax.specs.Table.{Table}
use Rattle.mv_syntax.specs.inner.Reader.{read}

-- what n more turns of a loop read from bits b, from index i on and behind the items so far
abbrev pub turns_of_items : {A : Type 0} → (ℕ → List A → Table A) → ℕ → ℕ → List A → List Bool → Result (List A × List Bool) Fault
turns_of_items t zero i before b = Ok (before, b)
turns_of_items t (suc n) i before b = bits.◌>>=◌ (read (t i before) b) (λ x. turns_of_items t n (i + 1) (before ++ x.0 ∷ []) x.1)

abbrev pub turns_of_columns :
    {A B : Type 0} → (ℕ → List A → List B → Table (A × B)) → ℕ → ℕ → List A → List B → List Bool → Result ((List A × List B) × List Bool) Fault
turns_of_columns t zero i ones others b = Ok ((ones, others), b)
turns_of_columns t (suc n) i ones others b =
    bits.◌>>=◌ (read (t i ones others) b) (λ x. turns_of_columns t n (i + 1) (ones ++ x.0.0 ∷ []) (others ++ x.0.1 ∷ []) x.1)

-- what the rest of a loop reads from bits b: its turns from index i up to, but not including, `end`, behind the items so far
unfoldable pub rest_of_items : {A : Type 0} → (ℕ → Table A) → ℕ → ℕ → List A → List Bool → Result (List A × List Bool) Fault
rest_of_items t i end before b = turns_of_items (λ j _. t j) (end - i) i before b

unfoldable pub rest_of_items_after : {A : Type 0} → (ℕ → List A → Table A) → ℕ → ℕ → List A → List Bool → Result (List A × List Bool) Fault
rest_of_items_after t i end before b = turns_of_items t (end - i) i before b

unfoldable pub rest_of_columns : {A B : Type 0} → (ℕ → Table (A × B)) → ℕ → ℕ → List A → List B → List Bool → Result ((List A × List B) × List Bool) Fault
rest_of_columns t i end ones others b = turns_of_columns (λ j _ _. t j) (end - i) i ones others b

unfoldable pub rest_of_columns_after :
    {A B : Type 0} → (ℕ → List A → List B → Table (A × B)) → ℕ → ℕ → List A → List B → List Bool → Result ((List A × List B) × List Bool) Fault
rest_of_columns_after t i end ones others b = turns_of_columns t (end - i) i ones others b
