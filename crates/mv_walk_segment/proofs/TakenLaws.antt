-- The lists of a segment have at most 15 entries each (7.4.7.1).
use Rattle.std.proofs.Common.{◌≡◌, ◌≤◌, ℕ, List, [], ◌∷◌, length, map, Option, Some, None, arith}
use Rattle.std.specs.List.{range_with_len}
use Rattle.std.specs.Option.{IfSome}
use Rattle.std.proofs.lemmas.List.{length-map}
use Rattle.std.proofs.lemmas.List.FromFn.{length-map-range_with_len}
use Rattle.mv_slice.specs.declared.slice.SliceFull.{SliceFull}
use Rattle.mv_slice.specs.Context.{SliceContextValue}
use Rattle.mv_pictures.specs.Lists.{entry, list}
use Rattle.mv_reflists.specs.declared.sizes.Sizes.{Sizes}
use Rattle.mv_reflists.specs.Lists.{initial0, initial1, lists}
use Rattle.mv_reflists.specs.Segment.{active_l0, active_l1, list_entry_l0, list_entry_l1}
use Rattle.mv_walk_segment.specs.OpenValue.{DecodedValue}
use Rattle.mv_walk_segment.specs.Taken.{AreListed, AreShort, with_lists}

list-short : (places : List ℕ) (active : ℕ) (entries : Option (List ℕ)) → active ≤ 15 → IfSome entries (λ s. length s ≡ active) → length (list places active entries) ≤ 15
unfolding list
list-short [] active entries few all = omega arith
list-short (place ∷ more) active (Some coded) few all =
    let e : length (map (entry (place ∷ more)) coded) ≡ length coded = length-map coded (entry (place ∷ more)) in
    omega arith
list-short (place ∷ more) active None few all =
    let e : length (map (entry (place ∷ more)) (range_with_len 0 active)) ≡ active = length-map-range_with_len (entry (place ∷ more)) 0 active in
    omega arith

pub lists-short : (sizes : Sizes) (ctx : SliceContextValue) (full : SliceFull) → AreListed ctx full → AreShort (lists sizes ctx full)
unfolding lists
lists-short sizes ctx full h =
    (list-short (initial0 sizes) (active_l0 ctx full) (list_entry_l0 full) h.few_l0 h.all_l0, list-short (initial1 sizes) (active_l1 ctx full) (list_entry_l1 full) h.few_l1 h.all_l1)

pub with-short : (d : Option DecodedValue) (ctx : SliceContextValue) (f : Option SliceFull) → IfSome f (λ full. AreListed ctx full) → IfSome d (λ x. AreShort x.lists) → IfSome (with_lists d ctx f) (λ x. AreShort x.lists)
with-short None ctx f listed h = tt
with-short (Some d) ctx None listed h = h
with-short (Some d) ctx (Some full) listed h = lists-short d.sizes ctx full listed
