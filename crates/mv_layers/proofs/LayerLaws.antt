-- What holds of each layer where nuh_layer_id rises.
use Rattle.std.proofs.Common.{◌≡◌, ℕ, zero, suc, ◌∷◌, ◌+◌, ◌<◌, ◌≤◌, ltb, nat_eq, Bool, true, false, ◌&&◌, List, get_or, length, map, refl, sym, ap, ◌∙◌, subst, arith}
use Rattle.std.specs.List.{All, filter, list_any, range_with_len}
use Rattle.std.specs.List.Sorted.{IsStrictlyIncreasing}
use Rattle.std.proofs.lemmas.Bool.{eqb-true, ltb-false, ltb-true}
use Rattle.std.proofs.lemmas.List.FromFn.{length-map-range_with_len, get_or-map-range_with_len}
use Rattle.mv_layers.specs.References.{depends, reaches}
use Rattle.mv_layers.specs.LayerInfos.{LayerInfoValue, CodedLayers, nuh_layer_id, layer_info, layer_infos, directs_of}
use Rattle.mv_layers.specs.OutputLayers.{is_among}
use Rattle.mv_layers.specs.Derived.{IsOrderlyLayer}
use Rattle.mv_layers.proofs.Ranges.{some_at}
use Rattle.mv_layers.proofs.AnyLaws.{any_map}
use Rattle.mv_layers.proofs.ClosureLaws.{some_below, itself, closed}
use Rattle.mv_layers.proofs.Members.{picked, pick, found}
use Rattle.mv_layers.proofs.Rising.{picked_rise, rises_at, increasing, rise_map}

-- ---- a layer that passes is the layer of an index
pub in_infos : (p : LayerInfoValue → Bool) (coded : CodedLayers) → list_any p (layer_infos coded) ≡ true
    → (i : ℕ) × ((i < length coded.layer_id_in_nuh) × (p (layer_info coded i) ≡ true))
unfolding layer_infos
in_infos p coded h =
    some_below (λ i. p (layer_info coded i)) (length coded.layer_id_in_nuh)
    (sym (any_map (layer_info coded) p (range_with_len 0 (length coded.layer_id_in_nuh))) ∙ h)

pub of_infos : (p : LayerInfoValue → Bool) (coded : CodedLayers) (i : ℕ) → i < length coded.layer_id_in_nuh → p (layer_info coded i) ≡ true
    → list_any p (layer_infos coded) ≡ true
unfolding layer_infos
of_infos p coded i h passes =
    any_map (layer_info coded) p (range_with_len 0 (length coded.layer_id_in_nuh))
    ∙ some_at (λ i. p (layer_info coded i)) (length coded.layer_id_in_nuh) i h passes

pub found_in : (coded : CodedLayers) (id direct : ℕ) → is_among (directs_of (layer_infos coded) id) direct ≡ true
    → (i : ℕ) × ((i < length coded.layer_id_in_nuh) × ((nuh_layer_id coded i ≡ id) × (is_among (layer_info coded i).directs direct ≡ true)))
unfolding layer_infos
found_in coded id direct h =
    let here = found (λ info. nat_eq info.layer id) (layer_info coded) 0 (length coded.layer_id_in_nuh) direct h in
    let low : here.0 < 0 + length coded.layer_id_in_nuh = here.1.0 in
    (here.0, (omega (arith, low), (eqb-true (nuh_layer_id coded here.0) id here.1.1.0, here.1.1.1)))

-- ---- ids
rise : (coded : CodedLayers) → IsStrictlyIncreasing coded.layer_id_in_nuh → (i j : ℕ) → i < j → j < length coded.layer_id_in_nuh
    → nuh_layer_id coded i < nuh_layer_id coded j
rise coded h i j lt low = rises_at coded.layer_id_in_nuh h i j lt low

-- two layers with one nuh_layer_id are one
one_layer : (coded : CodedLayers) → IsStrictlyIncreasing coded.layer_id_in_nuh → (i j : ℕ) → i < length coded.layer_id_in_nuh
    → j < length coded.layer_id_in_nuh → nuh_layer_id coded i ≡ nuh_layer_id coded j → i ≡ j
one_layer coded h i j low other same = go (ltb i j) (ltb j i) refl refl
  where
    go : (b c : Bool) → ltb i j ≡ b → ltb j i ≡ c → i ≡ j
    go true c e f = let below : nuh_layer_id coded i < nuh_layer_id coded j = rise coded h i j (ltb-true i j e) other in absurd (omega (arith, below, same))
    go false true e f = let above : nuh_layer_id coded j < nuh_layer_id coded i = rise coded h j i (ltb-true j i f) low in absurd (omega (arith, above, same))
    go false false e f = let a : j ≤ i = ltb-false i j e in let b : i ≤ j = ltb-false j i f in omega (arith, a, b)

-- ---- a layer
pub orderly_layer : (coded : CodedLayers) → IsStrictlyIncreasing coded.layer_id_in_nuh → (i : ℕ) → i < length coded.layer_id_in_nuh
    → IsOrderlyLayer (layer_infos coded) (layer_info coded i)
orderly_layer coded h i low = record {
  directs_rise = picked_rise (nuh_layer_id coded) (depends coded.direct_dependency_flag i) i (λ j k lt within. rise coded h j k lt (omega (arith, within, low)));
  closure_rises = picked_rise (nuh_layer_id coded) (reaches coded.direct_dependency_flag i) (i + 1) (λ j k lt within. rise coded h j k lt (omega (arith, within, low)));
  directs_below = λ id m.
      let here = picked (nuh_layer_id coded) (depends coded.direct_dependency_flag i) i id m in
      subst (λ n. n < nuh_layer_id coded i) here.1.1.1 (rise coded h here.0 i here.1.0 low);
  itself = pick (nuh_layer_id coded) (reaches coded.direct_dependency_flag i) (i + 1) (nuh_layer_id coded i) i (omega arith) (itself coded.direct_dependency_flag i i) refl;
  closed = λ id direct m refers.
      let reached = picked (nuh_layer_id coded) (reaches coded.direct_dependency_flag i) (i + 1) id m in
      let other = found_in coded id direct refers in
      let to = picked (nuh_layer_id coded) (depends coded.direct_dependency_flag other.0) other.0 direct other.1.1.1 in
      let within : reached.0 < i + 1 = reached.1.0 in
      let same : other.0 ≡ reached.0 = one_layer coded h other.0 reached.0 other.1.0 (omega (arith, within, low)) (other.1.1.0 ∙ sym reached.1.1.1) in
      let below : to.0 < reached.0 = subst (λ j. to.0 < j) same to.1.0 in
      pick (nuh_layer_id coded) (reaches coded.direct_dependency_flag i) (i + 1) direct to.0 (omega (arith, below, within))
      (closed coded.direct_dependency_flag i reached.0 to.0 reached.1.1.0 below (subst (λ j. depends coded.direct_dependency_flag j to.0 ≡ true) same to.1.1.0)) to.1.1.1;
}

-- ---- all layers
pub orderly_layers : (coded : CodedLayers) → IsStrictlyIncreasing coded.layer_id_in_nuh → All (IsOrderlyLayer (layer_infos coded)) (layer_infos coded)
unfolding layer_infos
orderly_layers coded h k d low =
    let n : ℕ = length coded.layer_id_in_nuh in
    let within : k < n = subst (λ m. k < m) (length-map-range_with_len (layer_info coded) 0 n) low in
    subst (IsOrderlyLayer (layer_infos coded)) (sym (get_or-map-range_with_len (layer_info coded) 0 n k k d within (omega arith))) (orderly_layer coded h k within)

ids_of : (coded : CodedLayers) (a n : ℕ) → map (λ (info : LayerInfoValue). info.layer) (map (layer_info coded) (range_with_len a n)) ≡ map (nuh_layer_id coded) (range_with_len a n)
ids_of coded a zero = refl
ids_of coded a (suc n) = ap (λ l. nuh_layer_id coded a ∷ l) (ids_of coded (a + 1) n)

all_pass : (a n : ℕ) → filter (λ _. true) (range_with_len a n) ≡ range_with_len a n
all_pass a zero = refl
all_pass a (suc n) = ap (λ l. a ∷ l) (all_pass (a + 1) n)

pub ids_rise : (coded : CodedLayers) → IsStrictlyIncreasing coded.layer_id_in_nuh → IsStrictlyIncreasing (map (λ (info : LayerInfoValue). info.layer) (layer_infos coded))
unfolding layer_infos
ids_rise coded h =
    let n : ℕ = length coded.layer_id_in_nuh in
    subst IsStrictlyIncreasing (ap (map (nuh_layer_id coded)) (all_pass 0 n) ∙ sym (ids_of coded 0 n))
    (picked_rise (nuh_layer_id coded) (λ _. true) n (rise coded h))
