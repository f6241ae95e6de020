-- How many there are at most: references of each part, inter-layer reference pictures, entries of lists.
use Rattle.std.proofs.Common.{◌≡◌, ℕ, suc, ◌+◌, ◌≤◌, Bool, not, ◌&&◌, List, [], ◌∷◌, filter, get_or, length, map, Option, Some, None, refl, ap, sym, subst, arith, ◌∙◌}
use Rattle.std.specs.Option.{IfSome}
use Rattle.std.specs.List.{cons_option, filter_map}
use Rattle.std.proofs.lemmas.List.{length-map}
use Rattle.std.proofs.lemmas.List.Filters.{length-filter_both}
use Rattle.std.proofs.lemmas.List.FromFn.{length-map-range_with_len}
use Rattle.mv_syntax.specs.Table.{Valid}
use Rattle.mv_slice.specs.Context.{Fits, SliceContextValue}
use Rattle.mv_slice.specs.Slice.{header_layers, slice_header}
use Rattle.mv_slice.specs.declared.slice.SliceFull.{SliceFull}
use Rattle.mv_slice.specs.declared.slice.SliceHead.{SliceHead}
use Rattle.mv_pictures.specs.Layers.{InForce, directs, view}
use Rattle.mv_pictures.specs.Lists.{entry, list}
use Rattle.mv_pictures.specs.SliceFields.{Aim, Entry}
use Rattle.mv_dpb.specs.declared.held.Held.{Held as InBuffer}
use Rattle.mv_rps.specs.RefSet.{RefSetValue}
use Rattle.mv_rps.specs.Resolving.{index_of, is_after, is_before, is_long, kept_of, match_place, part}
use Rattle.mv_rps.specs.declared.resolved.Resolved.{Resolved}
use Rattle.mv_reflists.specs.declared.inter_layer_sets.Active2.{Active2}
use Rattle.mv_reflists.specs.declared.sizes.Sizes.{Sizes}
use Rattle.mv_reflists.specs.InterLayer.{InterLayerSets, inter_layer_sets, is_one_side, is_zero_side}
use Rattle.mv_reflists.specs.Lists as own
use Rattle.mv_reflists.specs.Segment.{active_l0, active_l1, list_entry_l0, list_entry_l1}
use Rattle.mv_walk_layer.specs.LayerValue.{LayerValue}
use Rattle.mv_walk_decoded.specs.Actives.{active_at, actives_at, named}
use Rattle.mv_walk_decoded.specs.Made.{IsResolved}
use Rattle.mv_walk_decoded.specs.Making.{sets_between}
use Rattle.mv_walk_decoded.proofs.Headers.{layers-few}
use Rattle.mv_walk_decoded.proofs.Lower.{full_valid, lists_listed, segment_all_l0, segment_all_l1, segment_few_l0, segment_few_l1}

-- ---- Lists that are made of others

filter-few : {A : Type 0} (test : A → Bool) (xs : List A) → length (filter test xs) ≤ length xs
filter-few test xs = omega (arith, length-filter_both test (λ x. not (test x)) (λ x. refl) xs)

option-few : {A : Type 0} (o : Option A) (xs : List A) (n : ℕ) → length xs ≤ n → length (cons_option o xs) ≤ suc n
option-few None xs n le = omega (arith, le)
option-few (Some x) xs n le = omega (arith, le)

filter_map-few : {A B : Type 0} (h : A → Option B) (xs : List A) → length (filter_map h xs) ≤ length xs
filter_map-few h [] = omega arith
filter_map-few h (x ∷ xs) = option-few (h x) (filter_map h xs) (length xs) (filter_map-few h xs)

-- ---- References

-- no part has more pictures than the set has entries
pub part-few : (in_part : Aim → Bool) (set : RefSetValue) (held : List InBuffer) → length (part in_part set held) ≤ length set.entries
unfolding part
part-few in_part set held =
    let used : List Entry = filter (λ (e : Entry). e.used && in_part e.aim) set.entries in
    omega
    (arith, length-map (filter_map (match_place set held) used) (index_of (kept_of set held)), filter_map-few (match_place set held) used, filter-few (λ (e : Entry). e.used && in_part e.aim) set.entries)

-- at most 15 are of each part
pub before-few : (set : RefSetValue) (held : List InBuffer) (room : ℕ) (v : Resolved) → IsResolved set held room v → length v.before.items ≤ 15
before-few set held room v h = omega (arith, ap length h.before, part-few is_before set held, h.few_entries)

pub after-few : (set : RefSetValue) (held : List InBuffer) (room : ℕ) (v : Resolved) → IsResolved set held room v → length v.after.items ≤ 15
after-few set held room v h = omega (arith, ap length h.after, part-few is_after set held, h.few_entries)

pub long-few : (set : RefSetValue) (held : List InBuffer) (room : ℕ) (v : Resolved) → IsResolved set held room v → length v.long.items ≤ 15
long-few set held room v h = omega (arith, ap length h.long, part-few is_long set held, h.few_entries)

-- no side has more layers than there are active ones
pub zero-few : (view base : ℕ) (active : List Active2) → length (inter_layer_sets view base active).zero ≤ length active
unfolding inter_layer_sets
zero-few view base active =
    omega (arith, length-map (filter (is_zero_side view base) active) (λ (a : Active2). a.layer), filter-few (is_zero_side view base) active)

pub one-few : (view base : ℕ) (active : List Active2) → length (inter_layer_sets view base active).one ≤ length active
unfolding inter_layer_sets
one-few view base active =
    omega (arith, length-map (filter (is_one_side view base) active) (λ (a : Active2). a.layer), filter-few (is_one_side view base) active)

-- there are as many active layers as the header names
pub actives-few : {P : Type 0} (layers : List (LayerValue P)) (at : InForce) (layer unit : ℕ) (numbers : List ℕ) → length (actives_at layers at layer unit numbers) ≡ length numbers
actives-few layers at layer unit numbers =
    length-map (named (directs at layer) numbers) (active_at layers at unit) ∙ length-map numbers (λ number. get_or (directs at layer) number 0)

-- each side has at most 62 of them
pub zero-within : {P : Type 0} (ctx : SliceContextValue) (kind : ℕ) (head : SliceHead) → Fits ctx → Valid (slice_header ctx kind) head → (layers : List (LayerValue P)) (at : InForce) (layer unit : ℕ) (active : List Active2) (between : InterLayerSets) →
    active ≡ actives_at layers at layer unit (header_layers ctx head.full) → between ≡ sets_between at layer active → length between.zero ≤ 62
zero-within ctx kind head fits valid layers at layer unit active between are is =
    omega
    (arith, ap (λ (s : InterLayerSets). length s.zero) is, zero-few (view at layer) (view at 0) active, ap length are, actives-few layers at layer unit (header_layers ctx head.full), layers-few ctx kind head fits valid)

pub one-within : {P : Type 0} (ctx : SliceContextValue) (kind : ℕ) (head : SliceHead) → Fits ctx → Valid (slice_header ctx kind) head → (layers : List (LayerValue P)) (at : InForce) (layer unit : ℕ) (active : List Active2) (between : InterLayerSets) →
    active ≡ actives_at layers at layer unit (header_layers ctx head.full) → between ≡ sets_between at layer active → length between.one ≤ 62
one-within ctx kind head fits valid layers at layer unit active between are is =
    omega
    (arith, ap (λ (s : InterLayerSets). length s.one) is, one-few (view at layer) (view at 0) active, ap length are, actives-few layers at layer unit (header_layers ctx head.full), layers-few ctx kind head fits valid)

-- ---- Lists of a valid header

list-few : (initial : List ℕ) (active : ℕ) (entries : Option (List ℕ)) → active ≤ 15 → IfSome entries (λ es. length es ≡ active) → length (list initial active entries) ≤ 15
unfolding list
list-few [] active entries few e = omega arith
list-few (place ∷ more) active (Some es) few e = omega (arith, few, e, length-map es (entry (place ∷ more)))
list-few (place ∷ more) active None few e = omega (arith, few, length-map-range_with_len (entry (place ∷ more)) 0 active)

module _ (ctx : SliceContextValue) (kind : ℕ) (head : SliceHead) (fits : Fits ctx) (valid : Valid (slice_header ctx kind) head) where
  pub few-l0 : IfSome head.full (λ full. active_l0 ctx full ≤ 15)
  few-l0 = go head.full refl
    where
      go : (o : Option SliceFull) → head.full ≡ o → IfSome o (λ full. active_l0 ctx full ≤ 15)
      go None e = tt
      go (Some full) e = segment_few_l0 ctx full fits (lists_listed ctx kind full (full_valid ctx kind head full valid e))

  pub few-l1 : IfSome head.full (λ full. active_l1 ctx full ≤ 15)
  few-l1 = go head.full refl
    where
      go : (o : Option SliceFull) → head.full ≡ o → IfSome o (λ full. active_l1 ctx full ≤ 15)
      go None e = tt
      go (Some full) e = segment_few_l1 ctx full fits (lists_listed ctx kind full (full_valid ctx kind head full valid e))

  pub all-l0 : IfSome head.full (λ full. IfSome (list_entry_l0 full) (λ entries. length entries ≡ active_l0 ctx full))
  all-l0 = go head.full refl
    where
      go : (o : Option SliceFull) → head.full ≡ o → IfSome o (λ full. IfSome (list_entry_l0 full) (λ entries. length entries ≡ active_l0 ctx full))
      go None e = tt
      go (Some full) e = segment_all_l0 ctx full (lists_listed ctx kind full (full_valid ctx kind head full valid e))

  pub all-l1 : IfSome head.full (λ full. IfSome (list_entry_l1 full) (λ entries. length entries ≡ active_l1 ctx full))
  all-l1 = go head.full refl
    where
      go : (o : Option SliceFull) → head.full ≡ o → IfSome o (λ full. IfSome (list_entry_l1 full) (λ entries. length entries ≡ active_l1 ctx full))
      go None e = tt
      go (Some full) e = segment_all_l1 ctx full (lists_listed ctx kind full (full_valid ctx kind head full valid e))

  -- each list has at most 15 entries
  pub lists-few : (sizes : Sizes) (full : SliceFull) → head.full ≡ Some full → (length (own.lists sizes ctx full).list0 ≤ 15) × (length (own.lists sizes ctx full).list1 ≤ 15)
  unfolding own.lists
  lists-few sizes full e =
      let listed = lists_listed ctx kind full (full_valid ctx kind head full valid e) in (
        list-few (own.initial0 sizes) (active_l0 ctx full) (list_entry_l0 full) (segment_few_l0 ctx full fits listed) (segment_all_l0 ctx full listed),
        list-few (own.initial1 sizes) (active_l1 ctx full) (list_entry_l1 full) (segment_few_l1 ctx full fits listed) (segment_all_l1 ctx full listed),
      )
