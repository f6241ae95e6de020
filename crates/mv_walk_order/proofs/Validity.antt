-- What is within limits in a valid video parameter set: at most 64 output layer sets, each of at most 64 layers, and reorder
-- numbers of at most 15.
use Rattle.std.proofs.Common.{◌≡◌, ℕ, zero, suc, ◌+◌, ◌-◌, ◌≤◌, Bool, true, false, cond, not, List, [], ◌∷◌, length, get_or, map, Option, Some, None, refl, sym, ap, ◌∙◌, subst, arith, nat_eq, nat_lt}
use Rattle.std.specs.List.{enumerate_from, filter, range_with_len}
use Rattle.std.proofs.lemmas.List.{length-drop, length-map}
use Rattle.std.proofs.lemmas.List.Filters.{length-filter_both}
use Rattle.std.proofs.lemmas.List.FromFn.{length-enumerate_from, length-range_with_len}
use Rattle.mv_syntax.specs.Table.{Valid, ue, when}
use Rattle.mv_syntax.specs.Words.{◌!◌∶◌, ◌otherwise◌, is_set, or_zero, over}
use Rattle.mv_syntax.proofs.LoopLaws.{items-length}
use Rattle.mv_rules.specs.declared.rule.Rule.TheVariants.{VpsLimit}
use Rattle.mv_layers.specs.LayerInfos.{LayerInfoValue}
use Rattle.mv_layers.specs.OutputLayers.{OlsLayers, highest, ols_layers, ols_outputs}
use Rattle.mv_vpssets.specs.DpbSizes.{DpbSetValue}
use Rattle.mv_vpssets.specs.OutputSets.{OutputLayerSetValue, VpsOutputSetsValue, output_layer_sets, output_sets, past_output_sets}
use Rattle.mv_vpssets.specs.Sets.{all_sets, coded_set, coded_sets}
use Rattle.mv_vpssets.proofs.Bounds.{layers_few}
use Rattle.mv_vpsext.specs.Args.{AreVpsArgs, VpsArgsValue, layer_sets}
use Rattle.mv_vpsext.specs.Derived.{all_ols, derived, no_dpb, numbered_ols, reorder, reorder_pics}
use Rattle.mv_vpsext.specs.VpsExt.{VpsExtValue, ext_layers, vps_extension}
use Rattle.mv_vpsext.proofs.Bounds.{flags_within}
use Rattle.mv_vpsext.proofs.Extensions.{reorder_of_valid}
use Rattle.mv_vps.specs.Base.{args_of}
use Rattle.mv_vps.specs.Vps.{ValidVps, VpsValue, WholeVps, described, vps_fields}
use Rattle.mv_vps.proofs.Extending.{args_valid}
use Rattle.mv_vps.proofs.Getting.{base_valid}
use Rattle.mv_walk_order.specs.OrderSteps.{FitsSet, no_ols}

extension_valid : (v : VpsValue) → Valid vps_fields v → Valid (when (is_set v.base.vps_extension_flag) (vps_extension (args_of v.base))) v.extension
unfolding vps_fields
extension_valid v h = h.0.1.0

-- ---- How many sets

added_few : (n : ℕ) (o : Option ℕ) → Valid (when (over 1 (n + 1)) (ue ! VpsLimit ∶ past_output_sets (n + 1))) o → n + or_zero o ≤ 63
added_few n None h = let e : nat_lt 1 (n + 1) ≡ false = h in grind arith
added_few n (Some more) h = let e : nat_lt 64 (n + 1 + more) ≡ false = h.1.1 in grind arith

number_of_ols : (infos : List LayerInfoValue) (sets : List (List ℕ)) (coded : VpsOutputSetsValue) (sizes : List DpbSetValue)
    → length (all_ols (all_sets infos sets coded) sizes) ≡ suc (length coded.output_layer_sets)
unfolding all_ols coded_sets
number_of_ols infos sets coded sizes =
    let idc : ℕ = or_zero coded.default_output_layer_idc in
    length-map (enumerate_from 0 (all_sets infos sets coded)) (numbered_ols sizes)
    ∙ length-enumerate_from 0 (all_sets infos sets coded)
    ∙ ap suc (length-map (enumerate_from 1 coded.output_layer_sets) (λ numbered. coded_set infos sets idc numbered.0 numbered.1) ∙ length-enumerate_from 1 coded.output_layer_sets)

ext_few : (args : VpsArgsValue) (ext : VpsExtValue) → AreVpsArgs args → Valid (vps_extension args) ext → length (derived args ext).sets ≤ 64
unfolding vps_extension output_sets output_layer_sets layer_sets
ext_few args ext are h =
    let few : length args.layer_id_included_flag + or_zero ext.output_sets.num_add_olss ≤ 63 =
    added_few (length args.layer_id_included_flag) ext.output_sets.num_add_olss h.0.1.1.1.0.0.0 in
    let coded : length ext.output_sets.output_layer_sets ≡ length args.layer_id_included_flag + or_zero ext.output_sets.num_add_olss =
    items-length _ 1 (length args.layer_id_included_flag + or_zero ext.output_sets.num_add_olss) ext.output_sets.output_layer_sets h.0.1.1.1.0.0.1.1 in
    rw (number_of_ols (ext_layers args ext.dimensions ext.dependencies) args.layer_id_included_flag ext.output_sets ext.dpb_size) (omega (arith, few, coded))

few_if : (present : Bool) (args : VpsArgsValue) (ext : Option VpsExtValue) → AreVpsArgs args → Valid (when present (vps_extension args)) ext → length (described args ext).sets ≤ 64
few_if present args None are h = omega arith
few_if present args (Some ext) are h = ext_few args ext are h.1

pub sets_few : (v : WholeVps) → ValidVps v → length v.derived.sets ≤ 64
sets_few v h =
    let few : length (described (args_of v.coded.0.base) v.coded.0.extension).sets ≤ 64 =
    few_if (is_set v.coded.0.base.vps_extension_flag) (args_of v.coded.0.base) v.coded.0.extension (args_valid v.coded.0.base (base_valid v.coded.0 h.payload.fields)) (extension_valid v.coded.0 h.payload.fields) in
    subst (λ d. length d.sets ≤ 64) (sym h.derived) few

-- ---- Each set

passing_few : {X : Type 0} (p : X → Bool) (xs : List X) → length (filter p xs) ≤ length xs
passing_few p xs = omega (arith, length-filter_both p (λ x. not (p x)) (λ x. refl) xs)

outputs_few : (layers : List ℕ) (flags : Option (List ℕ)) (idc : ℕ) → length (ols_outputs layers flags idc) ≤ length layers
outputs_few layers (Some flags) idc =
    let kept = passing_few (λ (j : ℕ). is_set (get_or flags j 0)) (range_with_len 0 (length layers)) in
    let all = length-range_with_len 0 (length layers) in
    let same = length-map (filter (λ (j : ℕ). is_set (get_or flags j 0)) (range_with_len 0 (length layers))) (λ (j : ℕ). get_or layers j 0) in
    omega (arith, kept, all, same)
outputs_few layers None idc = go (nat_eq idc 0)
  where
    go : (b : Bool) → length (cond b layers (highest layers)) ≤ length layers
    go true = omega arith
    go false = omega (arith, length-drop (length layers - 1) layers)

no_layers : OlsLayers
no_layers = record { layers = []; outputs = []; necessary = [] }

coded_few : (infos : List LayerInfoValue) (sets : List (List ℕ)) (idc : ℕ) → ((k : ℕ) → length (get_or sets k []) ≤ 63) → (m : ℕ) (coded : List OutputLayerSetValue) (k : ℕ)
    → length (get_or (map (λ numbered. coded_set infos sets idc numbered.0 numbered.1) (enumerate_from m coded)) k no_layers).outputs ≤ 64
unfolding no_layers
coded_few infos sets idc few m [] k = omega arith
coded_few infos sets idc few m (c ∷ coded) zero =
    let low = layers_few sets (ols_layers sets m c.layer_set_idx_for_ols_minus1) m c.layer_set_idx_for_ols_minus1 few refl in
    omega (arith, low, outputs_few (ols_layers sets m c.layer_set_idx_for_ols_minus1) c.output_layer_flag idc)
coded_few infos sets idc few m (c ∷ coded) (suc k) = coded_few infos sets idc few (m + 1) coded k

all_few : (infos : List LayerInfoValue) (sets : List (List ℕ)) (coded : VpsOutputSetsValue) → ((k : ℕ) → length (get_or sets k []) ≤ 63) → (k : ℕ)
    → length (get_or (all_sets infos sets coded) k no_layers).outputs ≤ 64
unfolding coded_sets
all_few infos sets coded few zero = omega arith
all_few infos sets coded few (suc k) = coded_few infos sets (or_zero coded.default_output_layer_idc) few 1 coded.output_layer_sets k

low_at : (sizes : List DpbSetValue) (n : ℕ) → ((k : ℕ) → reorder_pics (get_or sizes k no_dpb) ≤ 15) → n ≤ 15 → (m : ℕ) → (reorder sizes m otherwise n) ≤ 15
low_at sizes n low few zero = few
low_at sizes n low few (suc k) = low k

fit_at : (sizes : List DpbSetValue) (n : ℕ) → ((k : ℕ) → reorder_pics (get_or sizes k no_dpb) ≤ 15) → n ≤ 15 → (m : ℕ) (xs : List OlsLayers) → ((k : ℕ) → length (get_or xs k no_layers).outputs ≤ 64) → (k : ℕ)
    → FitsSet n (get_or (map (numbered_ols sizes) (enumerate_from m xs)) k no_ols)
fit_at sizes n low few m [] outs k = (omega arith, omega arith)
fit_at sizes n low few m (x ∷ xs) outs zero = (low_at sizes n low few m, outs 0)
fit_at sizes n low few m (x ∷ xs) outs (suc k) = fit_at sizes n low few (m + 1) xs (λ k. outs (suc k)) k

ext_fit : (args : VpsArgsValue) (ext : VpsExtValue) → AreVpsArgs args → Valid (vps_extension args) ext → (n : ℕ) → n ≤ 15 → (k : ℕ) → FitsSet n (get_or (derived args ext).sets k no_ols)
unfolding all_ols
ext_fit args ext are h n few k =
    fit_at ext.dpb_size n (reorder_of_valid args ext h) few 0 (all_sets (ext_layers args ext.dimensions ext.dependencies) args.layer_id_included_flag ext.output_sets)
    (all_few (ext_layers args ext.dimensions ext.dependencies) args.layer_id_included_flag ext.output_sets (flags_within args are)) k

fit_if : (present : Bool) (args : VpsArgsValue) (ext : Option VpsExtValue) → AreVpsArgs args → Valid (when present (vps_extension args)) ext → (n : ℕ) → n ≤ 15 → (k : ℕ)
    → FitsSet n (get_or (described args ext).sets k no_ols)
fit_if present args None are h n few zero = (few, omega arith)
fit_if present args None are h n few (suc k) = (omega arith, omega arith)
fit_if present args (Some ext) are h n few k = ext_fit args ext are h.1 n few k

pub sets_fit : (v : WholeVps) → ValidVps v → (n : ℕ) → n ≤ 15 → (k : ℕ) → FitsSet n (get_or v.derived.sets k no_ols)
sets_fit v h n few k =
    let fit : FitsSet n (get_or (described (args_of v.coded.0.base) v.coded.0.extension).sets k no_ols) =
    fit_if (is_set v.coded.0.base.vps_extension_flag) (args_of v.coded.0.base) v.coded.0.extension (args_valid v.coded.0.base (base_valid v.coded.0 h.payload.fields)) (extension_valid v.coded.0 h.payload.fields) n few k in
    subst (λ d. FitsSet n (get_or d.sets k no_ols)) (sym h.derived) fit
