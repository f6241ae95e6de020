-- What the getters of a valid video parameter set need.
use Rattle.std.proofs.Common.{◌≡◌, ℕ, zero, suc, ◌+◌, ◌<◌, ◌≤◌, Bool, true, false, List, [], ◌∷◌, length, get_or, take, map, Option, Some, None, option_map, refl, sym, ap, ◌∙◌, subst, arith, nat_lt, cond}
use Rattle.std.specs.List.{enumerate_from}
use Rattle.std.proofs.lemmas.List.{length-map}
use Rattle.std.proofs.lemmas.List.FromFn.{length-enumerate_from, length-map-range_with_len}
use Rattle.std.proofs.lemmas.List.Quantifiers.{position-Some}
use Rattle.mv_syntax.specs.Table.{Valid, ue, when}
use Rattle.mv_syntax.specs.Loops.{each}
use Rattle.mv_syntax.specs.Words.{over, is_set, or_zero, ◌otherwise◌, ◌!◌∶◌}
use Rattle.mv_syntax.proofs.LoopLaws.{items-length}
use Rattle.mv_vpsext.specs.Args.{VpsArgsValue, AreVpsArgs, layer_set, layer_sets}
use Rattle.mv_vpsext.specs.VpsExt.{VpsExtValue, ext_layers, vps_extension}
use Rattle.mv_layers.specs.LayerInfos.{LayerInfoValue, layer_info, layer_infos, is_layer, layer_index}
use Rattle.mv_vpssets.specs.DpbSizes.{DpbSetValue}
use Rattle.mv_vpslayers.specs.declared.dimensions.VpsLayer.{VpsLayer}
use Rattle.mv_vpslayers.specs.Layers.{nuh_layer_id, coded_layers, layers_described}
use Rattle.mv_vpsext.specs.Formats.{formats}
use Rattle.mv_vpssets.specs.OutputSets.{VpsOutputSetsValue, past_output_sets, output_layer_sets, output_sets}
use Rattle.mv_vpssets.specs.Sets.{coded_set, coded_sets, all_sets}
use Rattle.mv_vpsext.specs.Derived.{numbered_ols, all_ols, derived}
use Rattle.mv_vps.specs.Base.{aligned_base, args_of}
use Rattle.mv_vps.specs.Vps.{VpsValue, vps_fields, described, WholeVps, ValidVps}
use Rattle.mv_vps.proofs.FormatSteps.{Small, ext_small}
use Rattle.mv_vps.proofs.Extending.{args_valid}
use Rattle.mv_vps.specs.Formats.{chroma_behind, rep_formats_of}
use Rattle.mv_rules.specs.declared.rule.Rule.TheVariants.{VpsLimit}

pub base_valid : (v : VpsValue) → Valid vps_fields v → Valid aligned_base v.base
unfolding vps_fields
base_valid v h = h.0.0

extension_valid : (v : VpsValue) → Valid vps_fields v → Valid (when (is_set v.base.vps_extension_flag) (vps_extension (args_of v.base))) v.extension
unfolding vps_fields
extension_valid v h = h.0.1.0

-- ---- formats
small_if : (present : Bool) (args : VpsArgsValue) (ext : Option VpsExtValue) (m : ℕ) → Valid (when present (vps_extension args)) ext
    → Small (chroma_behind (take m (rep_formats_of ext)))
small_if present args None zero h = (omega arith, omega arith)
small_if present args None (suc m) h = (omega arith, omega arith)
small_if present args (Some ext) m h = ext_small args ext m h.1

pub vps_small : (v : WholeVps) (m : ℕ) → ValidVps v → Small (chroma_behind (take m (rep_formats_of v.coded.0.extension)))
vps_small v m h = small_if (is_set v.coded.0.base.vps_extension_flag) (args_of v.coded.0.base) v.coded.0.extension m (extension_valid v.coded.0 h.payload.fields)

-- ---- output layer sets
added_few : (n : ℕ) (o : Option ℕ) → n ≤ 1023 → Valid (when (over 1 (n + 1)) (ue ! VpsLimit ∶ past_output_sets (n + 1))) o → n + or_zero o ≤ 1023
added_few n None few h = omega arith
added_few n (Some more) few h = let e : nat_lt 64 (n + 1 + more) ≡ false = h.1.1 in grind arith

number_of_ols : (infos : List LayerInfoValue) (sets : List (List ℕ)) (coded : VpsOutputSetsValue) (sizes : List DpbSetValue)
    → length (all_ols (all_sets infos sets coded) sizes) ≡ suc (length coded.output_layer_sets)
unfolding all_ols coded_sets
number_of_ols infos sets coded sizes =
    let idc : ℕ = or_zero coded.default_output_layer_idc in
    length-map (enumerate_from 0 (all_sets infos sets coded)) (numbered_ols sizes)
    ∙ length-enumerate_from 0 (all_sets infos sets coded)
    ∙ ap suc (length-map (enumerate_from 1 coded.output_layer_sets) (λ numbered. coded_set infos sets idc numbered.0 numbered.1) ∙ length-enumerate_from 1 coded.output_layer_sets)

sets_few : (args : VpsArgsValue) (ext : VpsExtValue) → AreVpsArgs args → Valid (vps_extension args) ext → length (derived args ext).sets ≤ 1024
unfolding vps_extension output_sets output_layer_sets layer_sets
sets_few args ext are h =
    let count : length args.layer_id_included_flag ≡ args.vps_num_layer_sets_minus1 =
    items-length (each (layer_set args.vps_max_layer_id)) 1 args.vps_num_layer_sets_minus1 args.layer_id_included_flag are.each_set in
    let few : length args.layer_id_included_flag + or_zero ext.output_sets.num_add_olss ≤ 1023 =
    added_few (length args.layer_id_included_flag) ext.output_sets.num_add_olss (omega (arith, count, are.sets)) h.0.1.1.1.0.0.0 in
    let coded : length ext.output_sets.output_layer_sets ≡ length args.layer_id_included_flag + or_zero ext.output_sets.num_add_olss =
    items-length _ 1 (length args.layer_id_included_flag + or_zero ext.output_sets.num_add_olss) ext.output_sets.output_layer_sets h.0.1.1.1.0.0.1.1 in
    rw (number_of_ols (ext_layers args ext.dimensions ext.dependencies) args.layer_id_included_flag ext.output_sets ext.dpb_size) (omega (arith, few, coded))

few_if : (present : Bool) (args : VpsArgsValue) (ext : Option VpsExtValue) → AreVpsArgs args → Valid (when present (vps_extension args)) ext → length (described args ext).sets ≤ 1024
few_if present args None are h = omega arith
few_if present args (Some ext) are h = sets_few args ext are h.1

pub vps_sets_few : (v : WholeVps) → ValidVps v → length v.derived.sets ≤ 1024
vps_sets_few v h =
    let few : length (described (args_of v.coded.0.base) v.coded.0.extension).sets ≤ 1024 =
    few_if (is_set v.coded.0.base.vps_extension_flag) (args_of v.coded.0.base) v.coded.0.extension (args_valid v.coded.0.base (base_valid v.coded.0 h.payload.fields)) (extension_valid v.coded.0 h.payload.fields) in
    subst (λ d. length d.sets ≤ 1024) (sym h.derived) few

-- ---- layers
number_of_layers : (n : ℕ) (layers : List VpsLayer) (views : Option (List ℕ)) (flags : List (List ℕ)) → length (layers_described n layers views flags) ≡ n + 1
unfolding layers_described layer_infos
number_of_layers n layers views flags =
    length-map-range_with_len (layer_info (coded_layers n layers views flags)) 0 (length (coded_layers n layers views flags).layer_id_in_nuh)
    ∙ length-map-range_with_len (nuh_layer_id layers) 0 (n + 1)

layers_few_if : (args : VpsArgsValue) (ext : Option VpsExtValue) → AreVpsArgs args → length (described args ext).layers ≤ 63
layers_few_if args None are = omega arith
layers_few_if args (Some ext) are =
    rw (number_of_layers args.vps_max_layers_minus1 ext.dimensions.layers ext.dimensions.view_id_val ext.dependencies.direct_dependency_flag) (omega (arith, are.layers))

pub vps_layers_few : (v : WholeVps) → ValidVps v → length v.derived.layers ≤ 63
vps_layers_few v h =
    let few : length (described (args_of v.coded.0.base) v.coded.0.extension).layers ≤ 63 =
    layers_few_if (args_of v.coded.0.base) v.coded.0.extension (args_valid v.coded.0.base (base_valid v.coded.0 h.payload.fields)) in
    subst (λ d. length d.layers ≤ 63) (sym h.derived) few

-- an index of a layer
pub index_few : (infos : List LayerInfoValue) (layer i : ℕ) → length infos ≤ 63 → layer_index infos layer ≡ Some i → i ≤ 62
index_few infos layer i few e =
    let no_info : LayerInfoValue = record { layer = 0; view_order = 0; view_id = 0; directs = []; closure = [] } in
    let below : i < length infos = (position-Some (is_layer layer) infos i no_info e).0 in omega (arith, below, few)

-- ---- formats of the layers
last_few : (present : Bool) (args : VpsArgsValue) (ext : VpsExtValue) (o : Option VpsExtValue) → Valid (when present (vps_extension args)) o → o ≡ Some ext
    → ext.formats.vps_num_rep_formats_minus1 ≤ 255
unfolding vps_extension formats
last_few present args ext None h e = cc
last_few present args ext (Some other) h e =
    let within : nat_lt 255 other.formats.vps_num_rep_formats_minus1 ≡ false = h.1.0.1.1.1.1.0.0.0.1 in
    let same : other.formats.vps_num_rep_formats_minus1 ≡ ext.formats.vps_num_rep_formats_minus1 = ap (λ (o : Option VpsExtValue). option_map (λ (x : VpsExtValue). x.formats.vps_num_rep_formats_minus1) o otherwise 0) e in
    not_over ext.formats.vps_num_rep_formats_minus1 (ap (nat_lt 255) (sym same) ∙ within)
  where
    not_over : (n : ℕ) → nat_lt 255 n ≡ false → n ≤ 255
    not_over n e = grind arith

pub vps_last_few : (v : WholeVps) (ext : VpsExtValue) → ValidVps v → v.coded.0.extension ≡ Some ext → ext.formats.vps_num_rep_formats_minus1 ≤ 255
vps_last_few v ext h e = last_few (is_set v.coded.0.base.vps_extension_flag) (args_of v.coded.0.base) ext v.coded.0.extension (extension_valid v.coded.0 h.payload.fields) e
