-- vps_extension (F.7.3.2.1.1), second part, up to default_ref_layers_active_flag: the references between layers.
use Rattle.std.specs.Prelude.{ℕ, ◌+◌, ◌-◌, List, [], ◌∷◌, Option, refl}
use Rattle.std.specs.List.{list_any}
use Rattle.mv_syntax.specs.Table.{Table, ◌>>=◌, u, ue, named, when, shaped}
use Rattle.mv_syntax.specs.Words.{◌▸◌, ◌>>◌, ◌!◌∶◌, tried, over, is, is_set}
use Rattle.mv_syntax.specs.Loops.{items, each, us}
use Rattle.mv_rules.specs.declared.rule.Rule.TheVariants.{AddedLayerSets, LayerSetBase, LayerSetClosure, LayerSetUnknown, VpsLimit}
use Rattle.mv_layers.specs.References.{depends}
use Rattle.mv_layers.specs.LayerInfos.{LayerInfoValue, independent_layers}
use Rattle.mv_layers.specs.LayerSets.{lacks_base, not_closed, has_unknown}
use Rattle.mv_vpslayers.specs.Dimensions.{VpsDimensionsValue}
use Rattle.mv_vpslayers.specs.Layers.{layers_described}

-- for i = 1 to vps_max_layers_minus1, for j = 0 to i-1
unfoldable pub layer_dependencies : ℕ → Table (List ℕ)
layer_dependencies i = named "direct_dependency_flag" (us 0 i 1)

unfoldable pub dependency_flags : ℕ → Table (List (List ℕ))
dependency_flags vps_max_layers_minus1 = items 1 vps_max_layers_minus1 layer_dependencies

-- num_add_layer_sets: the layer sets are tried before it (21 to 23), and none is added (AddedLayerSets, 19)
unfoldable pub added_layer_sets : List LayerInfoValue → List (List ℕ) → Table (Option ℕ)
added_layer_sets infos sets = tried
    ((LayerSetBase, list_any lacks_base sets)
    ∷ (LayerSetClosure, list_any (not_closed infos) sets)
    ∷ (LayerSetUnknown, list_any (has_unknown infos) sets)
    ∷ [])
    (named "num_add_layer_sets" (when (over 1 (independent_layers infos)) (ue ! AddedLayerSets ∶ over 0)))

-- for i = 0 to vps_max_layers_minus1
unfoldable pub all_sub_layers_max : ℕ → Table (List ℕ)
all_sub_layers_max vps_max_layers_minus1 =
    named "sub_layers_vps_max_minus1" (items 0 (vps_max_layers_minus1 + 1) (each (u 3 ! VpsLimit ∶ is 7)))

-- for i = 0 to vps_max_layers_minus1 - 1, for j = i+1 to vps_max_layers_minus1, where layer j refers directly to layer i
unfoldable pub max_tid : List (List ℕ) → ℕ → ℕ → Table (Option ℕ)
max_tid flags i j = named "max_tid_il_ref_pics_plus1" (when (depends flags j i) (u 3))

unfoldable pub layer_max_tids : ℕ → List (List ℕ) → ℕ → Table (List (Option ℕ))
layer_max_tids vps_max_layers_minus1 flags i = items (i + 1) (vps_max_layers_minus1 - i) (max_tid flags i)

unfoldable pub max_tids : ℕ → List (List ℕ) → Table (List (List (Option ℕ)))
max_tids vps_max_layers_minus1 flags = items 0 vps_max_layers_minus1 (layer_max_tids vps_max_layers_minus1 flags)

pub record VpsDependenciesValue : Type 0 where
  pub direct_dependency_flag : List (List ℕ)
  pub num_add_layer_sets : Option ℕ
  pub vps_sub_layers_max_minus1_present_flag : ℕ
  pub sub_layers_vps_max_minus1 : Option (List ℕ)
  pub max_tid_ref_present_flag : ℕ
  pub max_tid_il_ref_pics_plus1 : Option (List (List (Option ℕ)))
  pub default_ref_layers_active_flag : ℕ

-- the layer sets are those from 1 on
unfoldable pub dependencies : ℕ → VpsDimensionsValue → List (List ℕ) → Table VpsDependenciesValue
dependencies vps_max_layers_minus1 scalability sets = shaped
    (λ (direct_dependency_flag, (num_add_layer_sets, (vps_sub_layers_max_minus1_present_flag, (sub_layers_vps_max_minus1, (max_tid_ref_present_flag, (max_tid_il_ref_pics_plus1, default_ref_layers_active_flag)))))). record {
      direct_dependency_flag = direct_dependency_flag;
      num_add_layer_sets = num_add_layer_sets;
      vps_sub_layers_max_minus1_present_flag = vps_sub_layers_max_minus1_present_flag;
      sub_layers_vps_max_minus1 = sub_layers_vps_max_minus1;
      max_tid_ref_present_flag = max_tid_ref_present_flag;
      max_tid_il_ref_pics_plus1 = max_tid_il_ref_pics_plus1;
      default_ref_layers_active_flag = default_ref_layers_active_flag;
    })
    (λ v.
    v.direct_dependency_flag
    ▸ v.num_add_layer_sets
    ▸ v.vps_sub_layers_max_minus1_present_flag
    ▸ v.sub_layers_vps_max_minus1
    ▸ v.max_tid_ref_present_flag
    ▸ v.max_tid_il_ref_pics_plus1
    ▸ v.default_ref_layers_active_flag)
    (λ _. refl)
    do
      direct_dependency_flag ← dependency_flags vps_max_layers_minus1
      added_layer_sets (layers_described vps_max_layers_minus1 scalability.layers scalability.view_id_val direct_dependency_flag) sets
      vps_sub_layers_max_minus1_present_flag ← named "vps_sub_layers_max_minus1_present_flag" (u 1)
      when (is_set vps_sub_layers_max_minus1_present_flag) (all_sub_layers_max vps_max_layers_minus1)
      max_tid_ref_present_flag ← named "max_tid_ref_present_flag" (u 1)
      when (is_set max_tid_ref_present_flag) (max_tids vps_max_layers_minus1 direct_dependency_flag)
      named "default_ref_layers_active_flag" (u 1)
