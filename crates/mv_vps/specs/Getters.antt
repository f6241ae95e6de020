-- What holds of each layer of a video parameter set, and of all (F.7.4.3.1.1): the coded field, or the value that is stated for
-- where it is absent.
use Rattle.std.specs.Prelude.{ℕ, ◌+◌, ◌-◌, zero, suc, List, [], get_or, Option, Some, None, option_map, if◌then◌else◌, nat_lt}
use Rattle.mv_syntax.specs.Words.{◌otherwise◌}
use Rattle.mv_layers.specs.LayerInfos.{layer_index}
use Rattle.mv_layers.specs.PerLayer.{sub_layers_at, rep_format_at, poc_lsb_not_present_at}
use Rattle.mv_vpsext.specs.VpsExt.{VpsExtValue}
use Rattle.mv_vps.specs.Vps.{WholeVps}

-- what the extension codes, or the stated value where there is none
abbrev pub in_extension : {A : Type 0} → (VpsExtValue → A) → A → WholeVps → A
in_extension field stated vps = option_map field vps.coded.0.extension otherwise stated

-- what holds of a layer by its index, if the video parameter set has a layer of this nuh_layer_id
abbrev pub of_layer : {A : Type 0} → WholeVps → (ℕ → A) → ℕ → Option A
of_layer vps at_index layer = option_map at_index (layer_index vps.derived.layers layer)

-- sub_layers_vps_max_minus1: vps_max_sub_layers_minus1 where it isn't coded
abbrev pub sub_layers_of : WholeVps → ℕ → Option ℕ
sub_layers_of vps layer =
    let coded : Option (List ℕ) = in_extension (λ ext. ext.dependencies.sub_layers_vps_max_minus1) None vps in
    of_layer vps (sub_layers_at vps.coded.0.base.opening.vps_max_sub_layers_minus1 coded) layer

-- vps_rep_format_idx: where it isn't coded, 0 for layer 0, and else the index of the layer or the last format
abbrev pub rep_format_index : WholeVps → ℕ → Option ℕ
rep_format_index vps layer =
    let last : ℕ = in_extension (λ ext. ext.formats.vps_num_rep_formats_minus1) 0 vps in
    let coded : Option (List ℕ) = in_extension (λ ext. ext.formats.vps_rep_format_idx) None vps in
    of_layer vps (rep_format_at last coded) layer

-- poc_lsb_not_present_flag: 0 where it isn't coded
abbrev pub poc_lsb_not_present : WholeVps → ℕ → Option ℕ
poc_lsb_not_present vps layer =
    let coded : List (Option ℕ) = in_extension (λ ext. ext.pictures.poc_lsb_not_present_flag) [] vps in
    of_layer vps (poc_lsb_not_present_at coded) layer

-- default_ref_layers_active_flag and max_one_active_ref_layer_flag: 0 without an extension
abbrev pub default_ref_layers_active : WholeVps → ℕ
default_ref_layers_active vps = in_extension (λ ext. ext.dependencies.default_ref_layers_active_flag) 0 vps

abbrev pub max_one_active_ref_layer : WholeVps → ℕ
max_one_active_ref_layer vps = in_extension (λ ext. ext.pictures.max_one_active_ref_layer_flag) 0 vps

-- max_tid_il_ref_pics_plus1[i][j], which is coded for j above i: 7 where it isn't coded; in each list the first is that for j = i+1
abbrev pub max_tid_at : List (List (Option ℕ)) → ℕ → ℕ → ℕ
max_tid_at coded i j = if nat_lt i j then get_or (get_or coded i []) (j - (i + 1)) None otherwise 7 else 7

-- the same by the nuh_layer_id of the reference and of the layer
abbrev pub max_tid : WholeVps → ℕ → ℕ → ℕ
max_tid vps reference layer =
    let coded : List (List (Option ℕ)) = in_extension (λ ext. ext.dependencies.max_tid_il_ref_pics_plus1 otherwise []) [] vps in
    of_layer vps (λ j. of_layer vps (λ i. max_tid_at coded i j) reference otherwise 7) layer otherwise 7
