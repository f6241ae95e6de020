-- dpb_size (F.7.3.2.1.3), the seventh part of vps_extension: what a decoder has to hold for an output layer set.
use Rattle.std.specs.Prelude.{ℕ, ◌+◌, ◌-◌, Bool, false, ◌&&◌, ◌||◌, List, [], get_or, length, Option, refl, nat_eq}
use Rattle.mv_syntax.specs.Table.{Table, ◌>>=◌, u, ue, named, when, shaped}
use Rattle.mv_syntax.specs.Words.{◌▸◌, ◌>>◌, ◌!◌∶◌, over, is_set, coded_set}
use Rattle.mv_syntax.specs.Loops.{items}
use Rattle.mv_rules.specs.declared.rule.Rule.TheVariants.{VpsLimit}

-- what dpb_size takes of an output layer set: whether each of its layers is necessary, and the greatest
-- sub_layers_vps_max_minus1 of its layers
pub record DpbLayers : Type 0 where
  pub necessary : List Bool
  pub greatest : ℕ

abbrev pub no_layers : DpbLayers
no_layers = record { necessary = []; greatest = 0 }

-- for each layer k of the set, where it is necessary
unfoldable pub buffering : List Bool → ℕ → Table (Option ℕ)
buffering necessary k = named "max_vps_dec_pic_buffering_minus1" (when (get_or necessary k false) ue)

unfoldable pub bufferings : List Bool → Table (List (Option ℕ))
bufferings necessary = items 0 (length necessary) (buffering necessary)

pub record DpbNumbersValue : Type 0 where
  pub max_vps_dec_pic_buffering_minus1 : List (Option ℕ)
  pub max_vps_num_reorder_pics : ℕ
  pub max_vps_latency_increase_plus1 : ℕ

unfoldable pub dpb_numbers : List Bool → Table DpbNumbersValue
dpb_numbers necessary = shaped
    (λ (max_vps_dec_pic_buffering_minus1, (max_vps_num_reorder_pics, max_vps_latency_increase_plus1)). record {
      max_vps_dec_pic_buffering_minus1 = max_vps_dec_pic_buffering_minus1;
      max_vps_num_reorder_pics = max_vps_num_reorder_pics;
      max_vps_latency_increase_plus1 = max_vps_latency_increase_plus1;
    })
    (λ v.
    v.max_vps_dec_pic_buffering_minus1
    ▸ v.max_vps_num_reorder_pics
    ▸ v.max_vps_latency_increase_plus1)
    (λ _. refl)
    do
      bufferings necessary
      named "max_vps_num_reorder_pics" (ue ! VpsLimit ∶ over 15)
      named "max_vps_latency_increase_plus1" ue

pub record DpbSubLayerValue : Type 0 where
  pub sub_layer_dpb_info_present_flag : Option ℕ
  pub numbers : Option DpbNumbersValue

-- sub-layer j: sub_layer_dpb_info_present_flag is 1 for the lowest, and 0 where else it isn't coded
unfoldable pub dpb_sub_layer : List Bool → ℕ → ℕ → Table DpbSubLayerValue
dpb_sub_layer necessary sub_layer_flag_info_present_flag j = shaped
    (λ (sub_layer_dpb_info_present_flag, numbers). record {
      sub_layer_dpb_info_present_flag = sub_layer_dpb_info_present_flag;
      numbers = numbers;
    })
    (λ v.
    v.sub_layer_dpb_info_present_flag
    ▸ v.numbers)
    (λ _. refl)
    do
      sub_layer_dpb_info_present_flag ← named "sub_layer_dpb_info_present_flag" (when (over 0 j && is_set sub_layer_flag_info_present_flag) (u 1))
      when (nat_eq j 0 || coded_set sub_layer_dpb_info_present_flag) (dpb_numbers necessary)

-- for j = 0 to the greatest sub_layers_vps_max_minus1 of the set's layers
unfoldable pub dpb_sub_layers : DpbLayers → ℕ → Table (List DpbSubLayerValue)
dpb_sub_layers set sub_layer_flag_info_present_flag =
    items 0 (set.greatest + 1) (dpb_sub_layer set.necessary sub_layer_flag_info_present_flag)

pub record DpbSetValue : Type 0 where
  pub sub_layer_flag_info_present_flag : ℕ
  pub sub_layers : List DpbSubLayerValue

unfoldable pub dpb_set : DpbLayers → Table DpbSetValue
dpb_set set = shaped
    (λ (sub_layer_flag_info_present_flag, sub_layers). record {
      sub_layer_flag_info_present_flag = sub_layer_flag_info_present_flag;
      sub_layers = sub_layers;
    })
    (λ v.
    v.sub_layer_flag_info_present_flag
    ▸ v.sub_layers)
    (λ _. refl)
    do
      sub_layer_flag_info_present_flag ← named "sub_layer_flag_info_present_flag" (u 1)
      dpb_sub_layers set sub_layer_flag_info_present_flag

-- for i = 1 to NumOutputLayerSets - 1, the output layer sets being those from 0 on
unfoldable pub dpb_of_set : List DpbLayers → ℕ → Table DpbSetValue
dpb_of_set sets i = dpb_set (get_or sets i no_layers)

unfoldable pub dpb_size : List DpbLayers → Table (List DpbSetValue)
dpb_size sets = items 1 (length sets - 1) (dpb_of_set sets)
