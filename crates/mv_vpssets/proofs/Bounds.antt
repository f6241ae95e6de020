-- How many layers an output layer set has, where the layer sets have at most 63.
use Rattle.std.proofs.Common.{◌≡◌, ℕ, zero, suc, ◌+◌, ◌^◌, ◌<◌, ◌≤◌, ltb, eqb, not, Bool, true, false, List, [], get_or, length, Option, Some, None, Ok, refl, sym, subst, arith}
use Rattle.std.specs.List.{filter, range_with_len}
use Rattle.std.proofs.lemmas.List.{get_or_past}
use Rattle.std.proofs.lemmas.List.Filters.{length-filter_both}
use Rattle.std.proofs.lemmas.List.FromFn.{length-range_with_len}
use Rattle.std.proofs.lemmas.Bool.{ltb-false, ltb-true, eqb-false}
use Rattle.mv_layers.specs.LayerSets.{has_layer, layers_in, set_flags}
use Rattle.mv_layers.specs.OutputLayers.{layer_set_of, ols_layers}

-- what holds of each item and of what is found beyond the last holds at each place
pub at_each_place : {A : Type 0} (P : A → Type 0) (xs : List A) (d : A) (k : ℕ) → (k < length xs → P (get_or xs k d)) → P d → P (get_or xs k d)
at_each_place P xs d k here beyond = go (ltb k (length xs)) refl
  where
    go : (b : Bool) → ltb k (length xs) ≡ b → P (get_or xs k d)
    go true e = here (ltb-true k (length xs) e)
    go false e = subst P (sym (get_or_past xs k d (ltb-false k (length xs) e))) beyond

-- an output layer set has at most 63 layers
passing_few : {X : Type 0} (p : X → Bool) (xs : List X) → length (filter p xs) ≤ length xs
passing_few p xs = omega (arith, length-filter_both p (λ x. not (p x)) (λ x. refl) xs)

set_flags_few : (sets : List (List ℕ)) → ((k : ℕ) → length (get_or sets k []) ≤ 63) → (n : ℕ) → length (set_flags sets n) ≤ 63
set_flags_few sets few zero = omega arith
set_flags_few sets few (suc k) = few k

layers_in_few : (flags : List ℕ) → length flags ≤ 63 → length (layers_in flags) ≤ 63
layers_in_few flags few = omega (arith, few, passing_few (has_layer flags) (range_with_len 0 (length flags)), length-range_with_len 0 (length flags))

pub layers_few : (sets : List (List ℕ)) (layers : List ℕ) (i : ℕ) (own : Option ℕ) → ((k : ℕ) → length (get_or sets k []) ≤ 63) → layers ≡ ols_layers sets i own
    → length layers ≤ 63
layers_few sets layers i own few e =
    let n : ℕ = layer_set_of (length sets + 1) i own in
    rw e (layers_in_few (set_flags sets n) (set_flags_few sets few n))
