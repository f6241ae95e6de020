-- The layer sets of a video parameter set (7.3.2.1). A nuh_layer_id of 63 and over 1,024 layer sets break the limit rule (this
-- project's profile).
use Rattle.std.specs.Prelude.{ℕ, List, refl}
use Rattle.mv_syntax.specs.Table.{Table, ◌>>=◌, u, ue, named, shaped}
use Rattle.mv_syntax.specs.Words.{◌▸◌, ◌!◌∶◌, over, is}
use Rattle.mv_rules.specs.declared.rule.Rule.TheVariants.{VpsLimit}
use Rattle.mv_vpsext.specs.Args.{layer_sets}

-- the greatest nuh_layer_id in a layer set, and the flags of the layer sets from 1 on
pub record VpsLayerSetsValue : Type 0 where
  pub vps_max_layer_id : ℕ
  pub vps_num_layer_sets_minus1 : ℕ
  pub layer_id_included_flag : List (List ℕ)

unfoldable pub all_layer_sets : Table VpsLayerSetsValue
all_layer_sets = shaped
    (λ (vps_max_layer_id, (vps_num_layer_sets_minus1, layer_id_included_flag)). record {
      vps_max_layer_id = vps_max_layer_id;
      vps_num_layer_sets_minus1 = vps_num_layer_sets_minus1;
      layer_id_included_flag = layer_id_included_flag;
    })
    (λ v.
    v.vps_max_layer_id
    ▸ v.vps_num_layer_sets_minus1
    ▸ v.layer_id_included_flag)
    (λ _. refl)
    do
      vps_max_layer_id ← named "vps_max_layer_id" (u 6 ! VpsLimit ∶ is 63)
      vps_num_layer_sets_minus1 ← named "vps_num_layer_sets_minus1" (ue ! VpsLimit ∶ over 1023)
      layer_sets vps_num_layer_sets_minus1 vps_max_layer_id
