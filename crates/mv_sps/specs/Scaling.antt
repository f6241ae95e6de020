-- The scaling lists of a sequence parameter set (7.3.2.2.1, F.7.3.2.2.1): those of another layer, its own, or the default ones.
use Rattle.std.specs.Prelude.{ℕ, Bool, not, ◌&&◌, List, Option, refl}
use Rattle.mv_syntax.specs.Table.{Table, ◌>>=◌, u, named, when, shaped}
use Rattle.mv_syntax.specs.Words.{◌under◌, ◌▸◌, ◌>>◌, is_set, coded_set}
use Rattle.mv_rules.specs.declared.rule.Rule.TheVariants.{SpsLimit}
use Rattle.mv_common.specs.ScalingListValue.{ScalingListValue}
use Rattle.mv_common.specs.ScalingLists.{scaling_list_data}

pub record SpsScalingValue : Type 0 where
  pub scaling_list_enabled_flag : ℕ
  pub sps_infer_scaling_list_flag : Option ℕ
  pub sps_scaling_list_ref_layer_id : Option ℕ
  pub sps_scaling_list_data_present_flag : Option ℕ
  pub scaling_list_data : Option (List (List ScalingListValue))

unfoldable pub scaling : Bool → Table SpsScalingValue
scaling ext = shaped
    (λ (scaling_list_enabled_flag, (sps_infer_scaling_list_flag, (sps_scaling_list_ref_layer_id, (sps_scaling_list_data_present_flag, scaling_list_data)))). record {
      scaling_list_enabled_flag = scaling_list_enabled_flag;
      sps_infer_scaling_list_flag = sps_infer_scaling_list_flag;
      sps_scaling_list_ref_layer_id = sps_scaling_list_ref_layer_id;
      sps_scaling_list_data_present_flag = sps_scaling_list_data_present_flag;
      scaling_list_data = scaling_list_data;
    })
    (λ v.
    v.scaling_list_enabled_flag
    ▸ v.sps_infer_scaling_list_flag
    ▸ v.sps_scaling_list_ref_layer_id
    ▸ v.sps_scaling_list_data_present_flag
    ▸ v.scaling_list_data)
    (λ _. refl)
    do
      scaling_list_enabled_flag ← named "scaling_list_enabled_flag" (u 1)
      let enabled : Bool = is_set scaling_list_enabled_flag in do
        sps_infer_scaling_list_flag ← named "sps_infer_scaling_list_flag" (when (enabled && ext) (u 1))
        let infer : Bool = coded_set sps_infer_scaling_list_flag in do
          named "sps_scaling_list_ref_layer_id" (when infer (u 6))
          sps_scaling_list_data_present_flag ← named "sps_scaling_list_data_present_flag" (when (enabled && not infer) (u 1))
          when (coded_set sps_scaling_list_data_present_flag) (scaling_list_data under SpsLimit)
