-- What a valid extension describes is orderly: its nuh_layer_id rise, and no layer set breaks a rule.
use Rattle.std.proofs.Common.{◌≡◌, ℕ, zero, suc, ◌+◌, ◌<◌, ◌≤◌, leb, nat_eq, Bool, true, false, ◌||◌, List, [], ◌∷◌, get_or, length, map, take, Option, Some, None, refl, sym, ap, ◌∙◌, subst, arith}
use Rattle.std.specs.List.{All, list_any, enumerate_from, range_with_len}
use Rattle.std.specs.List.Sorted.{IsStrictlyIncreasing}
use Rattle.std.proofs.lemmas.Bool.{true≢false, leb-false}
use Rattle.std.proofs.lemmas.List.{get_or-take, length-take-le}
use Rattle.std.proofs.lemmas.List.Elements.{All-cons, All-head, All-tail, All-map, All-nil}
use Rattle.std.proofs.lemmas.List.FromFn.{get_or-map-range_with_len, length-map-range_with_len}
use Rattle.mv_syntax.specs.Table.{when, u, Valid}
use Rattle.mv_syntax.specs.Words.{◌!◌∶◌, ◌otherwise◌, or_zero}
use Rattle.mv_syntax.proofs.LoopLaws.{items_after-length, items_after-valid}
use Rattle.mv_layers.specs.LayerInfos.{LayerInfoValue, CodedLayers, layer_infos}
use Rattle.mv_layers.specs.LayerSets.{not_closed, has_unknown}
use Rattle.mv_layers.specs.OutputLayers.{layer_set_of}
use Rattle.mv_layers.specs.Derived.{ols_value, IsOrderlySet, IsOrderly}
use Rattle.mv_layers.proofs.LayerLaws.{ids_rise, orderly_layers}
use Rattle.mv_layers.proofs.SetLaws.{orderly_sets}
use Rattle.mv_vpslayers.specs.declared.dimensions.VpsLayer.{VpsLayer}
use Rattle.mv_vpsext.specs.Args.{VpsArgsValue}
use Rattle.mv_vpslayers.specs.Layers.{plain_layer, nuh_layer_id, coded_layers, layers_described}
use Rattle.mv_vpslayers.specs.Dimensions.{VpsDimensionsValue, no_layer_id, vps_layer, vps_layers, dimensions}
use Rattle.mv_vpslayers.specs.Dependencies.{VpsDependenciesValue, added_layer_sets, dependencies}
use Rattle.mv_vpssets.specs.OutputSets.{VpsOutputSetsValue}
use Rattle.mv_vpssets.specs.Sets.{base_set, coded_set, coded_sets, all_sets}
use Rattle.mv_vpssets.specs.DpbSizes.{DpbSetValue}
use Rattle.mv_vpsext.specs.Derived.{reorder, numbered_ols, all_ols, derived}
use Rattle.mv_vpsext.specs.VpsExt.{VpsExtValue, vps_extension}
use Rattle.mv_rules.specs.declared.rule.Rule.TheVariants.{VpsLimit}

-- ---- nuh_layer_id rises
second_false : (a b : Bool) → (a || b) ≡ false → b ≡ false
second_false true b e = absurd (true≢false e)
second_false false b e = e

above : (before next : ℕ) (c : Bool) (o : Option ℕ) → Valid (when c (u 6 ! VpsLimit ∶ no_layer_id before)) o → (c ≡ false → before < next) → before < (o otherwise next)
above before next c None h rest = rest h
above before next c (Some id) h rest = leb-false id before (second_false (nat_eq id 63) (leb id before) h.1.1)

uncoded : (before next : ℕ) (c : Bool) (o : Option ℕ) → Valid (when c (u 6 ! VpsLimit ∶ no_layer_id before)) o → c ≡ false → (o otherwise next) ≡ next
uncoded before next c None h e = refl
uncoded before next c (Some id) h e = absurd (true≢false (sym h.0 ∙ e))

id_at_take : (layers : List VpsLayer) (k : ℕ) → nuh_layer_id (take k layers) k ≡ nuh_layer_id layers k
id_at_take layers zero = refl
id_at_take layers (suc k) = ap (λ (layer : VpsLayer). layer.layer_id_in_nuh otherwise (suc k)) (get_or-take (suc k) layers k plain_layer (omega arith))

-- the field of the layer behind the first k
field_valid : (present : Bool) (len n k : ℕ) (layers : List VpsLayer) → Valid (vps_layers n present len) layers → k < length layers
    → Valid (when present (u 6 ! VpsLimit ∶ no_layer_id (nuh_layer_id (take k layers) (length (take k layers))))) (get_or layers k plain_layer).layer_id_in_nuh
unfolding vps_layers vps_layer
field_valid present len n k layers h low = (items_after-valid (vps_layer present len) 1 n layers k (1 + k) plain_layer h low refl).0.0

-- where none is coded the layer of index k has k
plain : (present : Bool) (len n k : ℕ) (layers : List VpsLayer) → Valid (vps_layers n present len) layers → k ≤ length layers → present ≡ false → nuh_layer_id layers k ≡ k
plain present len n zero layers h low e = refl
plain present len n (suc k) layers h low e = uncoded _ (suc k) present _ (field_valid present len n k layers h (omega arith)) e

next_above : (present : Bool) (len n k : ℕ) (layers : List VpsLayer) → Valid (vps_layers n present len) layers → k < length layers
    → nuh_layer_id layers k < nuh_layer_id layers (suc k)
next_above present len n k layers h low =
    let behind : length (take k layers) ≡ k = length-take-le k layers (omega (arith, low)) in
    let same : nuh_layer_id (take k layers) (length (take k layers)) ≡ nuh_layer_id layers k = ap (nuh_layer_id (take k layers)) behind ∙ id_at_take layers k in
    subst (λ before. before < nuh_layer_id layers (suc k)) same
    (above (nuh_layer_id (take k layers) (length (take k layers))) (suc k) present (get_or layers k plain_layer).layer_id_in_nuh (field_valid present len n k layers h low)
    (λ e. let it : nuh_layer_id layers k ≡ k = plain present len n k layers h (omega (arith, low)) e in omega (arith, it, same)))

layers_length : (present : Bool) (len n : ℕ) (layers : List VpsLayer) → Valid (vps_layers n present len) layers → length layers ≡ n
unfolding vps_layers
layers_length present len n layers h = items_after-length (vps_layer present len) 1 n layers h

ids_above : (present : Bool) (len n : ℕ) (layers : List VpsLayer) → Valid (vps_layers n present len) layers
    → IsStrictlyIncreasing (map (nuh_layer_id layers) (range_with_len 0 (n + 1)))
ids_above present len n layers h k lt =
    let all : length (map (nuh_layer_id layers) (range_with_len 0 (n + 1))) ≡ n + 1 = length-map-range_with_len (nuh_layer_id layers) 0 (n + 1) in
    let count : length layers ≡ n = layers_length present len n layers h in
    let low : k + 1 < n + 1 = omega (arith, all, lt) in
    let here : get_or (map (nuh_layer_id layers) (range_with_len 0 (n + 1))) k 0 ≡ nuh_layer_id layers k = get_or-map-range_with_len (nuh_layer_id layers) 0 (n + 1) k k 0 (omega (arith, low)) (omega arith) in
    let next : get_or (map (nuh_layer_id layers) (range_with_len 0 (n + 1))) (k + 1) 0 ≡ nuh_layer_id layers (suc k) = get_or-map-range_with_len (nuh_layer_id layers) 0 (n + 1) (k + 1) (suc k) 0 low (omega arith) in
    let rise : nuh_layer_id layers k < nuh_layer_id layers (suc k) = next_above present len n k layers h (omega (arith, low, count)) in
    omega (arith, here, next, rise)

dimensions_rise : (m s : ℕ) (v : VpsDimensionsValue) → Valid (dimensions m s) v → IsStrictlyIncreasing (map (nuh_layer_id v.layers) (range_with_len 0 (m + 1)))
unfolding dimensions
dimensions_rise m s v h = ids_above _ _ m v.layers h.0.1.1.1.1.1.0

-- ---- no layer set breaks a rule
tried_sets : (infos : List LayerInfoValue) (sets : List (List ℕ)) (o : Option ℕ) → Valid (added_layer_sets infos sets) o
    → (list_any (not_closed infos) sets ≡ false) × (list_any (has_unknown infos) sets ≡ false)
unfolding added_layer_sets
tried_sets infos sets o h = (h.1.0, h.1.1.0)

dependencies_tried : (m : ℕ) (first : VpsDimensionsValue) (sets : List (List ℕ)) (v : VpsDependenciesValue) → Valid (dependencies m first sets) v
    → (list_any (not_closed (layers_described m first.layers first.view_id_val v.direct_dependency_flag)) sets ≡ false)
    × (list_any (has_unknown (layers_described m first.layers first.view_id_val v.direct_dependency_flag)) sets ≡ false)
unfolding dependencies
dependencies_tried m first sets v h = tried_sets (layers_described m first.layers first.view_id_val v.direct_dependency_flag) sets v.num_add_layer_sets h.0.1.0

-- ---- each set
all_numbered : {X : Type 0} (P : X → Type 0) (n : ℕ) (xs : List X) → All P xs → All (λ (numbered : ℕ × X). P numbered.1) (enumerate_from n xs)
all_numbered {X} P n [] h = All-nil (λ (numbered : ℕ × X). P numbered.1)
all_numbered {X} P n (x ∷ xs) h =
    All-cons (λ (numbered : ℕ × X). P numbered.1) (n, x) (enumerate_from (n + 1) xs) (All-head P x xs h) (all_numbered P (n + 1) xs (All-tail P x xs h))

orderly_all : (coded : CodedLayers) → IsStrictlyIncreasing coded.layer_id_in_nuh → (sets : List (List ℕ))
    → list_any (not_closed (layer_infos coded)) sets ≡ false → list_any (has_unknown (layer_infos coded)) sets ≡ false
    → (fourth : VpsOutputSetsValue) (sizes : List DpbSetValue)
    → All (IsOrderlySet (layer_infos coded)) (all_ols (all_sets (layer_infos coded) sets fourth) sizes)
unfolding all_ols coded_sets
orderly_all coded h sets closed known fourth sizes =
    let infos : List LayerInfoValue = layer_infos coded in
    let idc : ℕ = or_zero fourth.default_output_layer_idc in
    All-map (IsOrderlySet infos) (numbered_ols sizes) (enumerate_from 0 (all_sets infos sets fourth))
    (λ k d low. all_numbered (λ set. (r : Option ℕ) → IsOrderlySet infos (ols_value set r)) 0 (all_sets infos sets fourth)
    (All-cons (λ set. (r : Option ℕ) → IsOrderlySet infos (ols_value set r)) (base_set infos) (map (λ numbered. coded_set infos sets idc numbered.0 numbered.1) (enumerate_from 1 fourth.output_layer_sets))
    (orderly_sets coded h sets closed known 0 None 0)
    (All-map (λ set. (r : Option ℕ) → IsOrderlySet infos (ols_value set r)) (λ numbered. coded_set infos sets idc numbered.0 numbered.1) (enumerate_from 1 fourth.output_layer_sets)
    (λ j e within. orderly_sets coded h sets closed known
    (layer_set_of (length sets + 1) (get_or (enumerate_from 1 fourth.output_layer_sets) j e).0 (get_or (enumerate_from 1 fourth.output_layer_sets) j e).1.layer_set_idx_for_ols_minus1)
    (get_or (enumerate_from 1 fourth.output_layer_sets) j e).1.output_layer_flag idc)))
    k d low (reorder sizes (get_or (enumerate_from 0 (all_sets infos sets fourth)) k d).0))

pub orderly : (args : VpsArgsValue) (v : VpsExtValue) → Valid (vps_extension args) v → IsOrderly (derived args v)
unfolding vps_extension layers_described
orderly args v h =
    let coded : CodedLayers = coded_layers args.vps_max_layers_minus1 v.dimensions.layers v.dimensions.view_id_val v.dependencies.direct_dependency_flag in
    let rise : IsStrictlyIncreasing coded.layer_id_in_nuh = dimensions_rise args.vps_max_layers_minus1 args.vps_max_sub_layers_minus1 v.dimensions h.0.0 in
    let tried = dependencies_tried args.vps_max_layers_minus1 v.dimensions args.layer_id_included_flag v.dependencies h.0.1.0 in
    record {
      layers_rise = ids_rise coded rise;
      each_layer = orderly_layers coded rise;
      each_set = orderly_all coded rise args.layer_id_included_flag tried.0 tried.1 v.output_sets v.dpb_size;
    }
