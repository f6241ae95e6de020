-- The sub-layers' numbers of pictures in a video or a sequence parameter set (7.3.2.1, 7.3.2.2.1): the same fields, under names that
-- begin with the set's. A number over 15 is past its limit (this project's profile).
use Rattle.std.specs.Prelude.{ℕ, ◌+◌, ◌-◌, List, refl, if◌then◌else◌}
use Prim.Native.String.{String}
use Rattle.mv_syntax.specs.Table.{Table, ◌>>=◌, u, ue, named, shaped}
use Rattle.mv_syntax.specs.Words.{◌▸◌, ◌>>◌, ◌unless◌, over, is_set}
use Rattle.mv_syntax.specs.Loops.{each, items}
use Rattle.mv_common.specs.declared.sub_layer_ordering.ParameterSet.{ParameterSet}
use Rattle.mv_common.specs.declared.sub_layer_ordering.ParameterSet.TheVariants.{Video, Sequence}
use Rattle.mv_common.specs.declared.sub_layer_ordering.SubLayer.{SubLayer}

abbrev pub info_present_name : ParameterSet → String
info_present_name Video = "vps_sub_layer_ordering_info_present_flag"
info_present_name Sequence = "sps_sub_layer_ordering_info_present_flag"

abbrev pub buffering_name : ParameterSet → String
buffering_name Video = "vps_max_dec_pic_buffering_minus1"
buffering_name Sequence = "sps_max_dec_pic_buffering_minus1"

abbrev pub reorder_name : ParameterSet → String
reorder_name Video = "vps_max_num_reorder_pics"
reorder_name Sequence = "sps_max_num_reorder_pics"

abbrev pub latency_name : ParameterSet → String
latency_name Video = "vps_max_latency_increase_plus1"
latency_name Sequence = "sps_max_latency_increase_plus1"

-- the numbers of a sub-layer
unfoldable pub sub_layer : ParameterSet → Table SubLayer
sub_layer set = shaped
    (λ (max_dec_pic_buffering_minus1, (max_num_reorder_pics, max_latency_increase_plus1)). record {
      max_dec_pic_buffering_minus1 = max_dec_pic_buffering_minus1;
      max_num_reorder_pics = max_num_reorder_pics;
      max_latency_increase_plus1 = max_latency_increase_plus1;
    })
    (λ v.
    v.max_dec_pic_buffering_minus1
    ▸ v.max_num_reorder_pics
    ▸ v.max_latency_increase_plus1)
    (λ _. refl)
    do
      named (buffering_name set) (ue unless over 15)
      named (reorder_name set) (ue unless over 15)
      named (latency_name set) ue

-- for i = first to subs
unfoldable pub sub_layers : ParameterSet → ℕ → ℕ → Table (List SubLayer)
sub_layers set first subs = items first (subs + 1 - first) (each (sub_layer set))

-- the first sub-layer that is coded: 0 where all are, and else the highest, subs, alone
abbrev pub first_coded : ℕ → ℕ → ℕ
first_coded sub_layer_ordering_info_present_flag subs = if is_set sub_layer_ordering_info_present_flag then 0 else subs

pub record SubLayerOrderingValue : Type 0 where
  pub sub_layer_ordering_info_present_flag : ℕ
  pub sub_layers : List SubLayer

-- of a set whose highest sub-layer is subs
unfoldable pub sub_layer_ordering : ParameterSet → ℕ → Table SubLayerOrderingValue
sub_layer_ordering set subs = shaped
    (λ (sub_layer_ordering_info_present_flag, sub_layers). record {
      sub_layer_ordering_info_present_flag = sub_layer_ordering_info_present_flag;
      sub_layers = sub_layers;
    })
    (λ v.
    v.sub_layer_ordering_info_present_flag
    ▸ v.sub_layers)
    (λ _. refl)
    do
      sub_layer_ordering_info_present_flag ← named (info_present_name set) (u 1)
      sub_layers set (first_coded sub_layer_ordering_info_present_flag subs) subs
