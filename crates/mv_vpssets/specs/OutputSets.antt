-- vps_extension (F.7.3.2.1.1), fourth part, up to alt_output_layer_flag: the output layer sets.
use Rattle.std.specs.Prelude.{ℕ, ◌+◌, ◌-◌, Bool, ◌&&◌, ◌||◌, List, get_or, length, Option, refl, nat_eq, nat_le}
use Rattle.mv_syntax.specs.Table.{Table, ◌>>=◌, u, ue, named, when, shaped}
use Rattle.mv_syntax.specs.Words.{◌▸◌, ◌>>◌, ◌!◌∶◌, over, is, is_set, or_zero}
use Rattle.mv_syntax.specs.Loops.{items, us}
use Rattle.mv_rules.specs.declared.rule.Rule.TheVariants.{AltOutput, ReservedOutput, VpsLimit}
use Rattle.mv_fields.specs.Widths.{clog2}
use Rattle.mv_layers.specs.LayerInfos.{LayerInfoValue}
use Rattle.mv_layers.specs.OutputLayers.{OlsLayers, ols_layers, ols_outputs, is_among, with_necessary, one_output_refers}

-- for each layer j of the set, where it is necessary and there are several profile_tier_level
unfoldable pub profile_tier_level_idx : ℕ → OlsLayers → ℕ → Table (Option ℕ)
profile_tier_level_idx vps_num_profile_tier_level_minus1 set j =
    named "profile_tier_level_idx" (when (is_among set.necessary (get_or set.layers j 0) && over 0 vps_num_profile_tier_level_minus1)
    (u (clog2 (vps_num_profile_tier_level_minus1 + 1))))

unfoldable pub profile_tier_level_idxs : ℕ → OlsLayers → Table (List (Option ℕ))
profile_tier_level_idxs vps_num_profile_tier_level_minus1 set =
    items 0 (length set.layers) (profile_tier_level_idx vps_num_profile_tier_level_minus1 set)

-- alt_output_layer_flag, where the set has one output, which has direct reference layers; no alternative outputs (AltOutput, 20)
unfoldable pub set_profiles : List LayerInfoValue → ℕ → OlsLayers → Table (List (Option ℕ) × Option ℕ)
set_profiles infos vps_num_profile_tier_level_minus1 set = do
  profile_tier_level_idxs vps_num_profile_tier_level_minus1 set
  named "alt_output_layer_flag" (when (one_output_refers infos set.outputs) (u 1 ! AltOutput ∶ is_set))

pub record OutputLayerSetValue : Type 0 where
  pub layer_set_idx_for_ols_minus1 : Option ℕ
  pub output_layer_flag : Option (List ℕ)
  pub profile_tier_level_idx : List (Option ℕ)
  pub alt_output_layer_flag : Option ℕ

-- output layer set i; the layer set of one behind NumLayerSets is at most the last (26)
unfoldable pub output_layer_set : List LayerInfoValue → List (List ℕ) → ℕ → ℕ → ℕ → Table OutputLayerSetValue
output_layer_set infos sets vps_num_profile_tier_level_minus1 idc i = shaped
    (λ (layer_set_idx_for_ols_minus1, (output_layer_flag, (profile_tier_level_idx, alt_output_layer_flag))). record {
      layer_set_idx_for_ols_minus1 = layer_set_idx_for_ols_minus1;
      output_layer_flag = output_layer_flag;
      profile_tier_level_idx = profile_tier_level_idx;
      alt_output_layer_flag = alt_output_layer_flag;
    })
    (λ v.
    v.layer_set_idx_for_ols_minus1
    ▸ v.output_layer_flag
    ▸ v.profile_tier_level_idx
    ▸ v.alt_output_layer_flag)
    (λ _. refl)
    let num_layer_sets : ℕ = length sets + 1 in do
      layer_set_idx_for_ols_minus1 ← named "layer_set_idx_for_ols_minus1" (when (over 2 num_layer_sets && nat_le num_layer_sets i)
          (u (clog2 (num_layer_sets - 1)) ! VpsLimit ∶ over (num_layer_sets - 2)))
      let layers : List ℕ = ols_layers sets i layer_set_idx_for_ols_minus1 in do
        flags ← named "output_layer_flag" (when (nat_le num_layer_sets i || nat_eq idc 2) (us 0 (length layers) 1))
        set_profiles infos vps_num_profile_tier_level_minus1 (with_necessary infos layers (ols_outputs layers flags idc))

-- for i = 1 to NumOutputLayerSets - 1
unfoldable pub output_layer_sets : List LayerInfoValue → List (List ℕ) → ℕ → ℕ → ℕ → Table (List OutputLayerSetValue)
output_layer_sets infos sets vps_num_profile_tier_level_minus1 num_add_olss idc =
    items 1 (length sets + num_add_olss) (output_layer_set infos sets vps_num_profile_tier_level_minus1 idc)

pub record VpsOutputSetsValue : Type 0 where
  pub num_add_olss : Option ℕ
  pub default_output_layer_idc : Option ℕ
  pub output_layer_sets : List OutputLayerSetValue

-- there are over 64 output layer sets with so many more than the layer sets: past the limit, 26 (this project's profile)
abbrev pub past_output_sets : ℕ → ℕ → Bool
past_output_sets num_layer_sets num_add_olss = over 64 (num_layer_sets + num_add_olss)

-- default_output_layer_idc 3 is reserved: ReservedOutput, 24 (this project's profile)
unfoldable pub output_sets : List LayerInfoValue → List (List ℕ) → ℕ → Table VpsOutputSetsValue
output_sets infos sets vps_num_profile_tier_level_minus1 = shaped
    (λ (num_add_olss, (default_output_layer_idc, output_layer_sets)). record {
      num_add_olss = num_add_olss;
      default_output_layer_idc = default_output_layer_idc;
      output_layer_sets = output_layer_sets;
    })
    (λ v.
    v.num_add_olss
    ▸ v.default_output_layer_idc
    ▸ v.output_layer_sets)
    (λ _. refl)
    do
      num_add_olss ← named "num_add_olss" (when (over 1 (length sets + 1)) (ue ! VpsLimit ∶ past_output_sets (length sets + 1)))
      default_output_layer_idc ← named "default_output_layer_idc" (when (over 1 (length sets + 1)) (u 2 ! ReservedOutput ∶ is 3))
      output_layer_sets infos sets vps_num_profile_tier_level_minus1 (or_zero num_add_olss) (or_zero default_output_layer_idc)
