-- video_parameter_set_rbsp (7.3.2.1, F.7.3.2.1) up to vps_extension_flag, part by part: what every video parameter set has. A
-- sub-layer's number of pictures over 15 breaks the limit rule (this project's profile).
use Rattle.std.specs.Prelude.{ℕ, true, Option, refl}
use Rattle.mv_syntax.specs.Table.{Table, ◌>>=◌, u, named, when, shaped}
use Rattle.mv_syntax.specs.Words.{◌under◌, ◌▸◌, ◌>>◌, is_set, aligned_where}
use Rattle.mv_rules.specs.declared.rule.Rule.TheVariants.{VpsLimit}
use Rattle.mv_common.specs.declared.sub_layer_ordering.ParameterSet.TheVariants.{Video}
use Rattle.mv_common.specs.SubLayerOrdering.{SubLayerOrderingValue, sub_layer_ordering}
use Rattle.mv_vpsext.specs.Args.{VpsArgsValue}
use Rattle.mv_vps.specs.Opening.{VpsOpeningValue, opening}
use Rattle.mv_vps.specs.LayerSets.{VpsLayerSetsValue, all_layer_sets}
use Rattle.mv_vps.specs.Timing.{VpsTimingValue, timing}

pub record VpsBaseValue : Type 0 where
  pub opening : VpsOpeningValue
  pub ordering : SubLayerOrderingValue
  pub layer_sets : VpsLayerSetsValue
  pub vps_timing_info_present_flag : ℕ
  pub timing : Option VpsTimingValue
  pub vps_extension_flag : ℕ

unfoldable pub base : Table VpsBaseValue
base = shaped
    (λ (opening, (ordering, (layer_sets, (vps_timing_info_present_flag, (timing, vps_extension_flag))))). record {
      opening = opening;
      ordering = ordering;
      layer_sets = layer_sets;
      vps_timing_info_present_flag = vps_timing_info_present_flag;
      timing = timing;
      vps_extension_flag = vps_extension_flag;
    })
    (λ v.
    v.opening
    ▸ v.ordering
    ▸ v.layer_sets
    ▸ v.vps_timing_info_present_flag
    ▸ v.timing
    ▸ v.vps_extension_flag)
    (λ _. refl)
    do
      vps_opening ← opening
      sub_layer_ordering Video vps_opening.vps_max_sub_layers_minus1 under VpsLimit
      all_layer_sets
      vps_timing_info_present_flag ← named "vps_timing_info_present_flag" (u 1)
      when (is_set vps_timing_info_present_flag) (timing vps_opening.vps_max_sub_layers_minus1)
      named "vps_extension_flag" (u 1)

-- the same, with the one bits up to a byte's end that stand before an extension (vps_extension_alignment_bit_equal_to_one)
unfoldable pub aligned_base : Table VpsBaseValue
aligned_base = aligned_where (λ v. is_set v.vps_extension_flag) true base

-- what the extension takes from these fields
abbrev pub args_of : VpsBaseValue → VpsArgsValue
args_of v = record {
  vps_max_layers_minus1 = v.opening.vps_max_layers_minus1;
  vps_max_sub_layers_minus1 = v.opening.vps_max_sub_layers_minus1;
  vps_max_layer_id = v.layer_sets.vps_max_layer_id;
  vps_num_layer_sets_minus1 = v.layer_sets.vps_num_layer_sets_minus1;
  layer_id_included_flag = v.layer_sets.layer_id_included_flag;
}
