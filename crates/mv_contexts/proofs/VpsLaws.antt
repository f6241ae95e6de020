-- A valid video parameter set fits.
use Rattle.std.proofs.Common.{◌≡◌, ℕ, zero, suc, ◌+◌, ◌<◌, ◌≤◌, ◌^◌, nat_eq, Bool, true, false, ◌||◌, cond, List, [], ◌∷◌, ◌++◌, get_or, length, map, Option, Some, None, option_map, refl, sym, ◌∙◌, subst, zero-add, arith}
use Rattle.std.specs.List.{All, filter, find, range_with_len}
use Rattle.std.proofs.lemmas.Bool.{true≢false, eqb-true}
use Rattle.std.proofs.lemmas.List.{length-map}
use Rattle.std.proofs.lemmas.List.Elements.{All-cons, All-head, All-map, All-nil, All-tail}
use Rattle.std.proofs.lemmas.List.FromFn.{get_or-map-range_with_len, get_or-range_with_len, length-map-range_with_len, length-range_with_len}
use Rattle.mv_syntax.specs.Table.{EachValid, Valid, u, when}
use Rattle.mv_syntax.specs.Loops.{items}
use Rattle.mv_syntax.specs.Words.{◌!◌∶◌, ◌otherwise◌, is_set, or_zero}
use Rattle.mv_syntax.proofs.LoopLaws.{items_after-length, items_after-valid}
use Rattle.mv_rules.specs.declared.rule.Rule.TheVariants.{VpsLimit}
use Rattle.mv_layers.specs.References.{depends, direct_indexes}
use Rattle.mv_layers.specs.LayerInfos as infos
use Rattle.mv_layers.specs.LayerInfos.{CodedLayers, LayerInfoValue, directs_of, is_known, is_layer, layer_index, layer_info, layer_infos}
use Rattle.mv_layers.specs.PerLayer.{poc_lsb_not_present_at}
use Rattle.mv_vpslayers.specs.declared.dimensions.VpsLayer.{VpsLayer}
use Rattle.mv_vpslayers.specs.Layers.{coded_layers, layers_described, nuh_layer_id, plain_layer}
use Rattle.mv_vpslayers.specs.Dimensions.{VpsDimensionsValue, dimensions, no_layer_id, vps_layer, vps_layers}
use Rattle.mv_vpslayers.specs.Dependencies.{dependencies}
use Rattle.mv_vpsext.specs.Args.{AreVpsArgs, VpsArgsValue}
use Rattle.mv_vpsext.specs.Pictures.{pictures, poc_lsb_not_present as poc_field, poc_lsbs_not_present}
use Rattle.mv_vpsext.specs.VpsExt.{VpsExtValue, vps_extension}
use Rattle.mv_vps.specs.Base.{args_of}
use Rattle.mv_vps.specs.Vps.{ValidVps, VpsValue, WholeVps, described, vps_fields}
use Rattle.mv_vps.proofs.Extending.{args_valid, below_all}
use Rattle.mv_vps.proofs.Getting.{base_valid}
use Rattle.mv_slice.specs.Context.{IsFlag}
use Rattle.mv_contexts.specs.VpsFits.{VpsFits}

flag : (n : ℕ) → n < 2 ^ 1 → IsFlag n
flag n h = omega (arith, h)

-- ---- the layers
first_false : (a b : Bool) → (a || b) ≡ false → a ≡ false
first_false true b e = e
first_false false b e = refl

id_few : (before next : ℕ) (c : Bool) (o : Option ℕ) → next ≤ 62 → Valid (when c (u 6 ! VpsLimit ∶ no_layer_id before)) o → (o otherwise next) ≤ 62
id_few before next c None few h = few
id_few before next c (Some id) few h = below_all id 63 h.1.0 (first_false (nat_eq id 63) _ h.1.1)

field_valid : (present : Bool) (len n k : ℕ) (layers : List VpsLayer) → Valid (vps_layers n present len) layers → k < n
    → (before : ℕ) × Valid (when present (u 6 ! VpsLimit ∶ no_layer_id before)) (get_or layers k plain_layer).layer_id_in_nuh
unfolding vps_layers vps_layer
field_valid present len n k layers h low =
    let count : length layers ≡ n = items_after-length (vps_layer present len) 1 n layers h in
    (_, (items_after-valid (vps_layer present len) 1 n layers k (1 + k) plain_layer h (omega (arith, low, count)) refl).0.0)

layer_id_few : (present : Bool) (len n k : ℕ) (layers : List VpsLayer) → Valid (vps_layers n present len) layers → n ≤ 62 → k ≤ n → nuh_layer_id layers k ≤ 62
layer_id_few present len n zero layers h few low = omega arith
layer_id_few present len n (suc k) layers h few low =
    let field = field_valid present len n k layers h (omega (arith, low)) in
    id_few field.0 (suc k) present (get_or layers k plain_layer).layer_id_in_nuh (omega (arith, few, low)) field.1

filter_shorter : (p : ℕ → Bool) (xs : List ℕ) → length (filter p xs) ≤ length xs
filter_shorter p [] = omega arith
filter_shorter p (x ∷ xs) = go (p x) (filter_shorter p xs)
  where
    go : (b : Bool) → length (filter p xs) ≤ length xs → length (cond b (x ∷ filter p xs) (filter p xs)) ≤ suc (length xs)
    go true h = omega (arith, h)
    go false h = omega (arith, h)

-- a layer has a nuh_layer_id below 63, and at most 62 direct reference layers
record IsFew (info : LayerInfoValue) : Type 0 where
  id : info.layer ≤ 62
  directs : length info.directs ≤ 62

few_info : (coded : CodedLayers) (k : ℕ) → k ≤ 62 → infos.nuh_layer_id coded k ≤ 62 → IsFew (layer_info coded k)
few_info coded k low id =
    let shorter : length (direct_indexes coded.direct_dependency_flag k) ≤ length (range_with_len 0 k) = filter_shorter (depends coded.direct_dependency_flag k) (range_with_len 0 k) in
    let all : length (map (infos.nuh_layer_id coded) (direct_indexes coded.direct_dependency_flag k)) ≡ length (direct_indexes coded.direct_dependency_flag k) = length-map (direct_indexes coded.direct_dependency_flag k) (infos.nuh_layer_id coded) in
    record { id = id; directs = omega (arith, low, shorter, all, length-range_with_len 0 k) }

few_described : (m s : ℕ) (v : VpsDimensionsValue) (flags : List (List ℕ)) → Valid (dimensions m s) v → m ≤ 62 → All IsFew (layers_described m v.layers v.view_id_val flags)
unfolding dimensions layers_described layer_infos
few_described m s v flags h few =
    let coded : CodedLayers = coded_layers m v.layers v.view_id_val flags in
    let n : ℕ = length coded.layer_id_in_nuh in
    let count : n ≡ m + 1 = length-map-range_with_len (nuh_layer_id v.layers) 0 (m + 1) in
    All-map IsFew (layer_info coded) (range_with_len 0 n)
    (λ k d low.
    let below : k < n = omega (arith, low, length-range_with_len 0 n) in
    let here : get_or (range_with_len 0 n) k d ≡ k = get_or-range_with_len 0 n k d below ∙ zero-add k in
    let id : get_or coded.layer_id_in_nuh k 0 ≡ nuh_layer_id v.layers k = get_or-map-range_with_len (nuh_layer_id v.layers) 0 (m + 1) k k 0 (omega (arith, below, count)) (omega arith) in
    let small : nuh_layer_id v.layers k ≤ 62 = layer_id_few _ _ m k v.layers h.0.1.1.1.1.1.0 few (omega (arith, below, count)) in
    subst (λ i. IsFew (layer_info coded i)) (sym here) (few_info coded k (omega (arith, below, count, few)) (omega (arith, id, small))))

few_layers : (present : Bool) (args : VpsArgsValue) (ext : Option VpsExtValue) → AreVpsArgs args → Valid (when present (vps_extension args)) ext → All IsFew (described args ext).layers
unfolding vps_extension
few_layers present args None are h = All-cons IsFew _ [] (record { id = omega arith; directs = omega arith }) (All-nil IsFew)
few_layers present args (Some ext) are h = few_described args.vps_max_layers_minus1 args.vps_max_sub_layers_minus1 ext.dimensions ext.dependencies.direct_dependency_flag h.1.0.0 are.layers

known_few : (all : List LayerInfoValue) (layer : ℕ) → All IsFew all → is_known all layer ≡ true → layer ≤ 62
known_few [] layer few e = absurd (true≢false (sym e))
known_few (info ∷ all) layer few e =
    go (is_layer layer info) refl (known_few all layer (All-tail IsFew info all few))
  where
    go : (b : Bool) → is_layer layer info ≡ b → (is_known all layer ≡ true → layer ≤ 62) → layer ≤ 62
    go true is rest = let one : info.layer ≡ layer = eqb-true info.layer layer is in omega (arith, one, (All-head IsFew info all few).id)
    go false isnt rest = rest (subst (λ b. (b || is_known all layer) ≡ true) isnt e)

directs_few : (all : List LayerInfoValue) (layer : ℕ) → All IsFew all → length (directs_of all layer) ≤ 62
directs_few [] layer few = omega arith
directs_few (info ∷ all) layer few =
    go (is_layer layer info) (All-head IsFew info all few).directs (directs_few all layer (All-tail IsFew info all few))
  where
    go : (b : Bool) → length info.directs ≤ 62 → length (directs_of all layer) ≤ 62
        → length (option_map (λ (i : LayerInfoValue). i.directs) (cond b (Some info) (find (is_layer layer) all)) otherwise []) ≤ 62
    go true own rest = own
    go false own rest = rest

-- ---- the flags
coded_flag : (c : Bool) (o : Option ℕ) → Valid (when c (u 1)) o → IsFlag (or_zero o)
coded_flag c None h = omega arith
coded_flag c (Some v) h = flag v h.1

each_flag : (one : List (Option ℕ) → Option ℕ → Type 0) → ((before : List (Option ℕ)) (o : Option ℕ) → one before o → IsFlag (or_zero o))
    → (before all : List (Option ℕ)) → EachValid one before all → (k : ℕ) → IsFlag (or_zero (get_or all k None))
each_flag one are before [] h zero = omega arith
each_flag one are before [] h (suc k) = omega arith
each_flag one are before (o ∷ all) h zero = are before o h.0
each_flag one are before (o ∷ all) h (suc k) = each_flag one are (before ++ o ∷ []) all h.1 k

pocs_valid : (n : ℕ) (flags : List (List ℕ)) (all : List (Option ℕ)) → Valid (poc_lsbs_not_present n flags) all → (k : ℕ) → IsFlag (or_zero (get_or all k None))
unfolding poc_lsbs_not_present items poc_field
pocs_valid n flags all h = each_flag _ (λ before o valid. coded_flag _ o valid) [] all h.1

poc_at : (all : List (Option ℕ)) (i : Option ℕ) → ((k : ℕ) → IsFlag (or_zero (get_or all k None))) → IsFlag (option_map (poc_lsb_not_present_at all) i otherwise 0)
poc_at all None h = omega arith
poc_at all (Some zero) h = omega arith
poc_at all (Some (suc k)) h = h k

poc_flag : (present : Bool) (args : VpsArgsValue) (ext : Option VpsExtValue) (i : Option ℕ) → Valid (when present (vps_extension args)) ext
    → IsFlag (option_map (poc_lsb_not_present_at (option_map (λ (e : VpsExtValue). e.pictures.poc_lsb_not_present_flag) ext otherwise [])) i otherwise 0)
unfolding vps_extension pictures
poc_flag present args None i h = poc_at [] i none
  where
    none : (k : ℕ) → IsFlag (or_zero (get_or [] k None))
    none zero = omega arith
    none (suc k) = omega arith
poc_flag present args (Some ext) i h = poc_at ext.pictures.poc_lsb_not_present_flag i (pocs_valid _ _ ext.pictures.poc_lsb_not_present_flag h.1.0.1.1.1.1.1.0.0.1.1)

active_flag : (present : Bool) (args : VpsArgsValue) (ext : Option VpsExtValue) → Valid (when present (vps_extension args)) ext
    → IsFlag (option_map (λ (e : VpsExtValue). e.dependencies.default_ref_layers_active_flag) ext otherwise 0)
unfolding vps_extension dependencies
active_flag present args None h = omega arith
active_flag present args (Some ext) h = flag ext.dependencies.default_ref_layers_active_flag h.1.0.1.0.0.1.1.1.1.1.1

one_flag : (present : Bool) (args : VpsArgsValue) (ext : Option VpsExtValue) → Valid (when present (vps_extension args)) ext
    → IsFlag (option_map (λ (e : VpsExtValue). e.pictures.max_one_active_ref_layer_flag) ext otherwise 0)
unfolding vps_extension pictures
one_flag present args None h = omega arith
one_flag present args (Some ext) h = flag ext.pictures.max_one_active_ref_layer_flag h.1.0.1.1.1.1.1.0.0.0

pub extension_valid : (v : VpsValue) → Valid vps_fields v → Valid (when (is_set v.base.vps_extension_flag) (vps_extension (args_of v.base))) v.extension
unfolding vps_fields
extension_valid v h = h.0.1.0

few-all : (v : WholeVps) → ValidVps v → All IsFew v.derived.layers
few-all v h =
    let fields : Valid vps_fields v.coded.0 = h.payload.fields in
    subst (λ d. All IsFew d.layers) (sym h.derived)
    (few_layers _ (args_of v.coded.0.base) v.coded.0.extension (args_valid v.coded.0.base (base_valid v.coded.0 fields)) (extension_valid v.coded.0 fields))

pub few-directs : (v : WholeVps) (layer : ℕ) → ValidVps v → length (directs_of v.derived.layers layer) ≤ 62
few-directs v layer h = directs_few v.derived.layers layer (few-all v h)

pub vps-fits : (v : WholeVps) (layer : ℕ) → ValidVps v → is_known v.derived.layers layer ≡ true → VpsFits v layer
vps-fits v layer h known =
    let fields : Valid vps_fields v.coded.0 = h.payload.fields in
    let args : VpsArgsValue = args_of v.coded.0.base in
    let ext = extension_valid v.coded.0 fields in
    let few : All IsFew v.derived.layers = few-all v h in
    record {
      few_layers = known_few v.derived.layers layer few known;
      few_directs = few-directs v layer h;
      poc_lsb_not_present_flag = poc_flag _ args v.coded.0.extension (layer_index v.derived.layers layer) ext;
      default_ref_layers_active_flag = active_flag _ args v.coded.0.extension ext;
      max_one_active_ref_layer_flag = one_flag _ args v.coded.0.extension ext;
    }
