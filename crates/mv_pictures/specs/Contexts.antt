-- What slice segment headers take from the parameter sets that serve them (7.4.7.1, F.7.4.7.1), and the format of their
-- pictures (7.4.3.2.1, F.7.4.3.2.1).
use Rattle.std.specs.Prelude.{ℕ, ◌+◌, ◌-◌, ◌*◌, ◌/◌, ◌^◌, not, length, map, Option, Some, None, option_and_then, nat_eq}
use Rattle.mv_syntax.specs.Words.{◌otherwise◌, or_zero}
use Rattle.mv_common.specs.declared.format.Format.{Format}
use Rattle.mv_units.specs.declared.head.UnitHead.{UnitHead}
use Rattle.mv_vps.specs.Vps.{WholeVps}
use Rattle.mv_vps.specs.Formats.{format_at, rep_formats_of}
use Rattle.mv_vps.specs.Getters.{sub_layers_of, rep_format_index, poc_lsb_not_present, default_ref_layers_active, max_one_active_ref_layer, max_tid}
use Rattle.mv_layers.specs.LayerInfos.{directs_of}
use Rattle.mv_sps.specs.Sps.{SpsValue}
use Rattle.mv_sps.specs.declared.blocks.SpsBlocks.{SpsBlocks}
use Rattle.mv_sps.specs.declared.picture_format.SpsPictureFormat.{SpsPictureFormat}
use Rattle.mv_sps.specs.declared.rep_format.SpsRepFormat.{SpsRepFormat}
use Rattle.mv_pps.specs.Pps.{PpsValue}
use Rattle.mv_slice.specs.Context.{SliceContextValue}
use Rattle.mv_slice.specs.Layers.{DirectLayer, eligible}

-- ---- The format of the pictures of a layer

-- the format that a sequence parameter set codes itself
abbrev pub own_format : SpsPictureFormat → Format
own_format f = record {
  width = f.pic_width_in_luma_samples;
  height = f.pic_height_in_luma_samples;
  chroma = f.chroma_format_idc;
  luma_depth = 8 + f.bit_depth_luma_minus8;
  chroma_depth = 8 + f.bit_depth_chroma_minus8;
}

-- else the index of a format of the video parameter set: sps_rep_format_idx, or vps_rep_format_idx of the layer
abbrev pub format_index : WholeVps → ℕ → SpsValue → Option ℕ
format_index vps layer sps =
    elim (option_and_then (λ (f : SpsRepFormat). f.sps_rep_format_idx) sps.pictures.rep_format) [ Some k ↦ Some k | None ↦ rep_format_index vps layer ]

unfoldable pub format_of : WholeVps → ℕ → SpsValue → Option Format
format_of vps layer sps = elim (sps.pictures.picture_format) [
  | Some f ↦ Some (own_format f)
  | None ↦ option_and_then (format_at (rep_formats_of vps.coded.0.extension)) (format_index vps layer sps)
]

-- ---- Coding tree blocks

-- CtbSizeY: the side of a coding tree block
abbrev pub ctb_side : SpsBlocks → ℕ
ctb_side blocks = 2 ^ (blocks.log2_min_luma_coding_block_size_minus3 + 3 + blocks.log2_diff_max_min_luma_coding_block_size)

-- how many stand side by side in so many samples, the last perhaps cut
abbrev pub ctbs_in : ℕ → ℕ → ℕ
ctbs_in samples side = (samples + side - 1) / side

-- PicSizeInCtbsY
unfoldable pub ctbs : Format → SpsBlocks → ℕ
ctbs format blocks = ctbs_in format.width (ctb_side blocks) * ctbs_in format.height (ctb_side blocks)

-- ---- The context

-- what the video parameter set says of a layer's direct reference layer
abbrev pub direct_layer : WholeVps → ℕ → ℕ → DirectLayer
direct_layer vps layer reference = record {
  sub_layers_vps_max_minus1 = sub_layers_of vps reference otherwise 0;
  max_tid_il_ref_pics_plus1 = max_tid vps reference layer;
}

unfoldable pub slice_context : WholeVps → UnitHead → Format → SpsValue → PpsValue → SliceContextValue
slice_context vps head format sps pps = record {
  layer = head.layer;
  directs = length (directs_of vps.derived.layers head.layer);
  eligible = eligible head.tid (map (direct_layer vps head.layer) (directs_of vps.derived.layers head.layer));
  poc_lsb_not_present_flag = poc_lsb_not_present vps head.layer otherwise 0;
  default_ref_layers_active_flag = default_ref_layers_active vps;
  max_one_active_ref_layer_flag = max_one_active_ref_layer vps;
  ctbs = ctbs format sps.coding.blocks;
  lsb_bits = sps.pictures.log2_max_pic_order_cnt_lsb_minus4 + 4;
  chroma = not (nat_eq format.chroma 0);
  num_short_term_ref_pic_sets = sps.coding.references.num_short_term_ref_pic_sets;
  short_sets = sps.coding.references.st_ref_pic_set;
  long_term_ref_pics_present_flag = sps.coding.references.long_term_ref_pics_present_flag;
  num_long_term_ref_pics_sps = or_zero sps.coding.references.num_long_term_ref_pics_sps;
  lt_ref_pic_poc_lsb_sps = sps.coding.references.lt_ref_pic_poc_lsb_sps;
  used_by_curr_pic_lt_sps_flag = sps.coding.references.used_by_curr_pic_lt_sps_flag;
  sps_temporal_mvp_enabled_flag = sps.coding.sps_temporal_mvp_enabled_flag;
  sample_adaptive_offset_enabled_flag = sps.coding.tools.sample_adaptive_offset_enabled_flag;
  dependent_slice_segments_enabled_flag = pps.opening.dependent_slice_segments_enabled_flag;
  output_flag_present_flag = pps.opening.output_flag_present_flag;
  num_extra_slice_header_bits = pps.opening.num_extra_slice_header_bits;
  cabac_init_present_flag = pps.opening.cabac_init_present_flag;
  num_ref_idx_l0_default_active_minus1 = pps.opening.num_ref_idx_l0_default_active_minus1;
  num_ref_idx_l1_default_active_minus1 = pps.opening.num_ref_idx_l1_default_active_minus1;
  pps_slice_chroma_qp_offsets_present_flag = pps.quantization.pps_slice_chroma_qp_offsets_present_flag;
  weighted_pred_flag = pps.tools.weighted_pred_flag;
  weighted_bipred_flag = pps.tools.weighted_bipred_flag;
  tiles_enabled_flag = pps.tools.tiles_enabled_flag;
  entropy_coding_sync_enabled_flag = pps.tools.entropy_coding_sync_enabled_flag;
  pps_loop_filter_across_slices_enabled_flag = pps.pps_loop_filter_across_slices_enabled_flag;
  deblocking_filter_override_enabled_flag = or_zero pps.deblocking.deblocking_filter_override_enabled_flag;
  pps_deblocking_filter_disabled_flag = or_zero pps.deblocking.pps_deblocking_filter_disabled_flag;
  lists_modification_present_flag = pps.lists_modification_present_flag;
  slice_segment_header_extension_present_flag = pps.slice_segment_header_extension_present_flag;
}
