-- What holds of each output layer set where nuh_layer_id rises and no layer set breaks a rule.
use Rattle.std.proofs.Common.{◌≡◌, ℕ, zero, suc, ◌+◌, ◌-◌, ◌<◌, ◌≤◌, ltb, nat_eq, Bool, true, false, not, ◌&&◌, ◌||◌, List, [], ◌∷◌, drop, get_or, length, map, Option, Some, None, refl, sym, ap, ◌∙◌, subst, arith, if◌then◌else◌, ◌⊎◌, inl, inr}
use Rattle.std.specs.List.{list_any, filter, range_with_len}
use Rattle.std.specs.List.Sorted.{IsStrictlyIncreasing}
use Rattle.std.proofs.lemmas.Bool.{true≢false, eqb-true, eq-eqb, or_left, or_right, and_from, ltb-false, ltb-true}
use Rattle.std.proofs.lemmas.List.{get_or_past}
use Rattle.std.proofs.lemmas.List.Folds.{list_any_at}
use Rattle.std.proofs.lemmas.List.Kept.{IsStrictlyIncreasing-filter}
use Rattle.mv_syntax.specs.Words.{is_set}
use Rattle.mv_layers.specs.LayerInfos.{LayerInfoValue, CodedLayers, nuh_layer_id, layer_info, layer_infos, is_known, directs_of}
use Rattle.mv_layers.specs.LayerSets.{has_layer, layers_in, set_flags, lacks_reference, not_closed, has_unknown}
use Rattle.mv_layers.specs.OutputLayers.{is_among, highest, ols_outputs, is_necessary, with_necessary}
use Rattle.mv_layers.specs.Derived.{ols_value, is_kept, IsOrderlyLayer, IsOrderlySet}
use Rattle.mv_layers.proofs.ClosureLaws.{cases, either, both}
use Rattle.mv_layers.proofs.Members.{some_place, picked, among_filter, none_among, none_at, has_within, in_set, set_has, among_drop}
use Rattle.mv_layers.proofs.Rising.{picked_rise, range_rise, rises_at, highest_rises}
use Rattle.mv_layers.proofs.LayerLaws.{in_infos, of_infos, found_in, orderly_layer}

-- ---- outputs
pub outputs_within : (layers : List ℕ) (flags : Option (List ℕ)) (idc id : ℕ) → is_among (ols_outputs layers flags idc) id ≡ true → is_among layers id ≡ true
outputs_within layers (Some flags) idc id h =
    let here = picked (λ j. get_or layers j 0) (λ j. is_set (get_or flags j 0)) (length layers) id h in
    list_any_at (λ layer. nat_eq layer id) layers here.0 0 here.1.0 (eq-eqb (get_or layers here.0 0) id here.1.1.1)
outputs_within layers None idc id h = go (nat_eq idc 0) h
  where
    go : (b : Bool) → is_among (if b then layers else highest layers) id ≡ true → is_among layers id ≡ true
    go true all = all
    go false last = among_drop (length layers - 1) layers id last

pub outputs_rise : (layers : List ℕ) (flags : Option (List ℕ)) (idc : ℕ) → IsStrictlyIncreasing layers → IsStrictlyIncreasing (ols_outputs layers flags idc)
outputs_rise layers (Some flags) idc h = picked_rise (λ j. get_or layers j 0) (λ j. is_set (get_or flags j 0)) (length layers) (rises_at layers h)
outputs_rise layers None idc h = go (nat_eq idc 0)
  where
    go : (b : Bool) → IsStrictlyIncreasing (if b then layers else highest layers)
    go true = h
    go false = highest_rises layers

-- ---- a layer set that breaks no rule
not_false : (b : Bool) → not b ≡ false → b ≡ true
not_false true e = refl
not_false false e = absurd (true≢false e)

and_false : (a b : Bool) → (a && b) ≡ false → a ≡ true → b ≡ false
and_false true b e h = e
and_false false b e h = absurd (true≢false (sym h))

no_info : (p : LayerInfoValue → Bool) (coded : CodedLayers) (i : ℕ) → i < length coded.layer_id_in_nuh → list_any p (layer_infos coded) ≡ false
    → p (layer_info coded i) ≡ false
no_info p coded i low none = go (p (layer_info coded i)) refl
  where
    go : (b : Bool) → p (layer_info coded i) ≡ b → p (layer_info coded i) ≡ false
    go true e = absurd (true≢false (sym (of_infos p coded i low e) ∙ none))
    go false e = e

-- with a layer it has its direct reference layers
set_closed : (coded : CodedLayers) (flags : List ℕ) → not_closed (layer_infos coded) flags ≡ false → (id direct : ℕ) → has_layer flags id ≡ true
    → is_among (directs_of (layer_infos coded) id) direct ≡ true → has_layer flags direct ≡ true
set_closed coded flags none id direct has refers =
    let here = found_in coded id direct refers in
    let this : has_layer flags (nuh_layer_id coded here.0) ≡ true = ap (has_layer flags) here.1.1.0 ∙ has in
    let lacks : lacks_reference flags (layer_info coded here.0) ≡ false =
    and_false (has_layer flags (nuh_layer_id coded here.0)) (lacks_reference flags (layer_info coded here.0))
    (no_info (λ info. has_layer flags info.layer && lacks_reference flags info) coded here.0 here.1.0 none) this in
    not_false (has_layer flags direct) (none_among (λ j. not (has_layer flags j)) (layer_info coded here.0).directs direct lacks here.1.1.1)

-- ---- an output layer set
kept_outputs : (coded : CodedLayers) → IsStrictlyIncreasing coded.layer_id_in_nuh → (layers outputs : List ℕ)
    → ((id : ℕ) → is_among layers id ≡ true → (id ≡ 0) ⊎ (is_known (layer_infos coded) id ≡ true))
    → ((id : ℕ) → is_among outputs id ≡ true → is_among layers id ≡ true)
    → (id : ℕ) → is_among outputs id ≡ true → (nat_eq id 0 || is_among (filter (is_necessary (layer_infos coded) outputs) layers) id) ≡ true
kept_outputs coded h layers outputs known within id m = cases (known id (within id m))
    (λ base. or_left (nat_eq id 0) (is_among (filter (is_necessary (layer_infos coded) outputs) layers) id) (eq-eqb id 0 base)) λ is_layer.
    let here = in_infos (λ info. nat_eq info.layer id) coded is_layer in
    let same : nuh_layer_id coded here.0 ≡ id = eqb-true (nuh_layer_id coded here.0) id here.1.1 in
    let in_closure : is_among (layer_info coded here.0).closure id ≡ true =
    subst (λ n. is_among (layer_info coded here.0).closure n ≡ true) same (orderly_layer coded h here.0 here.1.0).itself in
    let needed : is_necessary (layer_infos coded) outputs id ≡ true =
    of_infos (λ info. is_among outputs info.layer && is_among info.closure id) coded here.0 here.1.0
    (and_from (is_among outputs (nuh_layer_id coded here.0)) (is_among (layer_info coded here.0).closure id) (ap (is_among outputs) same ∙ m) in_closure) in
    or_right (nat_eq id 0) (is_among (filter (is_necessary (layer_infos coded) outputs) layers) id)
    (among_filter (is_necessary (layer_infos coded) outputs) layers id ∙ and_from (is_necessary (layer_infos coded) outputs id) (is_among layers id) needed (within id m))

-- the direct reference layers of a necessary layer are necessary
necessary_closed : (coded : CodedLayers) → IsStrictlyIncreasing coded.layer_id_in_nuh → (outputs : List ℕ) (id direct : ℕ)
    → is_necessary (layer_infos coded) outputs id ≡ true → is_among (directs_of (layer_infos coded) id) direct ≡ true
    → is_necessary (layer_infos coded) outputs direct ≡ true
necessary_closed coded h outputs id direct needed refers =
    let here = in_infos (λ info. is_among outputs info.layer && is_among info.closure id) coded needed in
    let parts = both (is_among outputs (nuh_layer_id coded here.0)) (is_among (layer_info coded here.0).closure id) here.1.1 in
    of_infos (λ info. is_among outputs info.layer && is_among info.closure direct) coded here.0 here.1.0
    (and_from (is_among outputs (nuh_layer_id coded here.0)) (is_among (layer_info coded here.0).closure direct) parts.0
    ((orderly_layer coded h here.0 here.1.0).closed id direct parts.1 refers))

-- layer 0 has none
base_refers : (coded : CodedLayers) → IsStrictlyIncreasing coded.layer_id_in_nuh → (id direct : ℕ) → id ≡ 0
    → is_among (directs_of (layer_infos coded) id) direct ≡ true → ⊥
base_refers coded h id direct base refers =
    let here = found_in coded id direct refers in
    let below : direct < nuh_layer_id coded here.0 = (orderly_layer coded h here.0 here.1.0).directs_below direct here.1.1.1 in
    let same : nuh_layer_id coded here.0 ≡ id = here.1.1.0 in
    omega (arith, below, same, base)

kept_closed : (coded : CodedLayers) → IsStrictlyIncreasing coded.layer_id_in_nuh → (set outputs : List ℕ) → not_closed (layer_infos coded) set ≡ false
    → (id direct : ℕ) → (nat_eq id 0 || is_among (filter (is_necessary (layer_infos coded) outputs) (layers_in set)) id) ≡ true
    → is_among (directs_of (layer_infos coded) id) direct ≡ true
    → (nat_eq direct 0 || is_among (filter (is_necessary (layer_infos coded) outputs) (layers_in set)) direct) ≡ true
kept_closed coded h set outputs none id direct kept refers =
    cases (either (nat_eq id 0) (is_among (filter (is_necessary (layer_infos coded) outputs) (layers_in set)) id) kept)
    (λ base. absurd (base_refers coded h id direct (eqb-true id 0 base) refers)) λ necessary.
    let parts = both (is_necessary (layer_infos coded) outputs id) (is_among (layers_in set) id) (sym (among_filter (is_necessary (layer_infos coded) outputs) (layers_in set) id) ∙ necessary) in
    or_right (nat_eq direct 0) (is_among (filter (is_necessary (layer_infos coded) outputs) (layers_in set)) direct)
    (among_filter (is_necessary (layer_infos coded) outputs) (layers_in set) direct
    ∙ and_from (is_necessary (layer_infos coded) outputs direct) (is_among (layers_in set) direct)
    (necessary_closed coded h outputs id direct parts.0 refers)
    (set_has set direct (set_closed coded set none id direct (in_set set id parts.1) refers)))

orderly_set : (coded : CodedLayers) → IsStrictlyIncreasing coded.layer_id_in_nuh → (set : List ℕ) → not_closed (layer_infos coded) set ≡ false
    → ((id : ℕ) → is_among (layers_in set) id ≡ true → (id ≡ 0) ⊎ (is_known (layer_infos coded) id ≡ true))
    → (flags : Option (List ℕ)) (idc : ℕ) (reorder : Option ℕ)
    → IsOrderlySet (layer_infos coded) (ols_value (with_necessary (layer_infos coded) (layers_in set) (ols_outputs (layers_in set) flags idc)) reorder)
orderly_set coded h set none known flags idc reorder =
    let rise : IsStrictlyIncreasing (layers_in set) = range_rise (has_layer set) (length set) in
    record {
      layers_rise = rise;
      outputs_rise = outputs_rise (layers_in set) flags idc rise;
      necessary_rises = IsStrictlyIncreasing-filter (is_necessary (layer_infos coded) (ols_outputs (layers_in set) flags idc)) (layers_in set) rise;
      outputs_within = outputs_within (layers_in set) flags idc;
      necessary_within = λ id m.
          (both (is_necessary (layer_infos coded) (ols_outputs (layers_in set) flags idc) id) (is_among (layers_in set) id)
          (sym (among_filter (is_necessary (layer_infos coded) (ols_outputs (layers_in set) flags idc)) (layers_in set) id) ∙ m)).1;
      outputs_kept = kept_outputs coded h (layers_in set) (ols_outputs (layers_in set) flags idc) known (outputs_within (layers_in set) flags idc);
      kept_closed = kept_closed coded h set (ols_outputs (layers_in set) flags idc) none;
    }

-- ---- one of the layer sets
-- layer set 0, which is layer 0
base_closed : (coded : CodedLayers) → IsStrictlyIncreasing coded.layer_id_in_nuh → not_closed (layer_infos coded) (1 ∷ []) ≡ false
base_closed coded h = go (not_closed (layer_infos coded) (1 ∷ [])) refl
  where
    go : (b : Bool) → not_closed (layer_infos coded) (1 ∷ []) ≡ b → not_closed (layer_infos coded) (1 ∷ []) ≡ false
    go true e =
        let here = in_infos (λ info. has_layer (1 ∷ []) info.layer && lacks_reference (1 ∷ []) info) coded e in
        let parts = both (has_layer (1 ∷ []) (nuh_layer_id coded here.0)) (lacks_reference (1 ∷ []) (layer_info coded here.0)) here.1.1 in
        let place = some_place (λ id. not (has_layer (1 ∷ []) id)) (layer_info coded here.0).directs 0 parts.1 in
        let direct : ℕ = get_or (layer_info coded here.0).directs place.0 0 in
        let below : direct < nuh_layer_id coded here.0 = (orderly_layer coded h here.0 here.1.0).directs_below direct
        (list_any_at (λ layer. nat_eq layer direct) (layer_info coded here.0).directs place.0 0 place.1.0 (eq-eqb direct direct refl)) in
        let base : nuh_layer_id coded here.0 < 1 = has_within (1 ∷ []) (nuh_layer_id coded here.0) parts.0 in
        absurd (omega (arith, below, base))
    go false e = e

only_base : (id : ℕ) → is_among (0 ∷ []) id ≡ true → id ≡ 0
only_base id h = cases (either (nat_eq 0 id) false h) (λ e. sym (eqb-true 0 id e)) (λ e. absurd (true≢false (sym e)))

-- no flags have no layer
none_closed : (coded : CodedLayers) → not_closed (layer_infos coded) [] ≡ false
none_closed coded = go (not_closed (layer_infos coded) []) refl
  where
    go : (b : Bool) → not_closed (layer_infos coded) [] ≡ b → not_closed (layer_infos coded) [] ≡ false
    go true e =
        let here = in_infos (λ info. has_layer [] info.layer && lacks_reference [] info) coded e in
        let has = (both (has_layer [] (nuh_layer_id coded here.0)) (lacks_reference [] (layer_info coded here.0)) here.1.1).0 in
        let none : nuh_layer_id coded here.0 < 0 = has_within [] (nuh_layer_id coded here.0) has in
        absurd (omega (arith, none))
    go false e = e

pub orderly_sets : (coded : CodedLayers) → IsStrictlyIncreasing coded.layer_id_in_nuh → (sets : List (List ℕ))
    → list_any (not_closed (layer_infos coded)) sets ≡ false → list_any (has_unknown (layer_infos coded)) sets ≡ false
    → (n : ℕ) (flags : Option (List ℕ)) (idc : ℕ) (reorder : Option ℕ)
    → IsOrderlySet (layer_infos coded) (ols_value (with_necessary (layer_infos coded) (layers_in (set_flags sets n)) (ols_outputs (layers_in (set_flags sets n)) flags idc)) reorder)
orderly_sets coded h sets closed known zero flags idc reorder =
    orderly_set coded h (1 ∷ []) (base_closed coded h) (λ id m. inl (only_base id m)) flags idc reorder
orderly_sets coded h sets closed known (suc k) flags idc reorder = go (ltb k (length sets)) refl
  where
    go : (b : Bool) → ltb k (length sets) ≡ b → IsOrderlySet (layer_infos coded) (ols_value (with_necessary (layer_infos coded) (layers_in (get_or sets k [])) (ols_outputs (layers_in (get_or sets k [])) flags idc)) reorder)
    go true e =
        let within : k < length sets = ltb-true k (length sets) e in
        orderly_set coded h (get_or sets k []) (none_at (not_closed (layer_infos coded)) sets k [] closed within)
        (λ id m. inr (not_false (is_known (layer_infos coded) id) (none_among (λ j. not (is_known (layer_infos coded) j)) (layers_in (get_or sets k [])) id (none_at (has_unknown (layer_infos coded)) sets k [] known within) m)))
        flags idc reorder
    go false e =
        subst (λ set. IsOrderlySet (layer_infos coded) (ols_value (with_necessary (layer_infos coded) (layers_in set) (ols_outputs (layers_in set) flags idc)) reorder)) (sym (get_or_past sets k [] (ltb-false k (length sets) e)))
        (orderly_set coded h [] (none_closed coded) (λ id m. absurd (true≢false (sym m))) flags idc reorder)
