-- A list by whether its initial list is empty, and by the modification.
use Rattle.std.proofs.Common.{◌≡◌, ℕ, ◌<◌, List, [], ◌∷◌, length, map, Option, Some, None, refl, arith}
use Rattle.std.specs.List.{range_with_len}
use Rattle.mv_pictures.specs.Lists.{entry, list}

pub list_empty : (places : List ℕ) (active : ℕ) (list_entry : Option (List ℕ)) → length places ≡ 0 → [] ≡ list places active list_entry
unfolding list
list_empty [] active list_entry e = refl
list_empty (place ∷ more) active list_entry e = absurd (omega arith)

pub list_modified : (places : List ℕ) (active : ℕ) (list_entry : List ℕ) → 0 < length places → map (entry places) list_entry ≡ list places active (Some list_entry)
unfolding list
list_modified [] active list_entry h = absurd (omega arith)
list_modified (place ∷ more) active list_entry h = refl

pub list_initial : (places : List ℕ) (active : ℕ) → 0 < length places → map (entry places) (range_with_len 0 active) ≡ list places active None
unfolding list
list_initial [] active h = absurd (omega arith)
list_initial (place ∷ more) active h = refl
