-- What slice segment headers take from the parameter sets that stand at the head of a stream.
use Rattle.std.specs.Prelude.{ℕ, true, [], ◌∷◌, nat_eq, if◌then◌else◌}
use Rattle.mv_slice.specs.Context.{SliceContextValue}

-- in layer 0, or in layer 1, which has layer 0 as its one direct reference layer: pictures of 16 coding tree blocks, with chroma,
-- whose order counts have four low bits
unfoldable pub context : ℕ → SliceContextValue
context layer = record {
  layer = layer;
  directs = layer;
  eligible = if nat_eq layer 0 then [] else 0 ∷ [];
  poc_lsb_not_present_flag = 0;
  default_ref_layers_active_flag = 1;
  max_one_active_ref_layer_flag = 1;
  ctbs = 16;
  lsb_bits = 4;
  chroma = true;
  num_short_term_ref_pic_sets = 0;
  short_sets = [];
  long_term_ref_pics_present_flag = 0;
  num_long_term_ref_pics_sps = 0;
  lt_ref_pic_poc_lsb_sps = [];
  used_by_curr_pic_lt_sps_flag = [];
  sps_temporal_mvp_enabled_flag = 0;
  sample_adaptive_offset_enabled_flag = 0;
  dependent_slice_segments_enabled_flag = 0;
  output_flag_present_flag = 0;
  num_extra_slice_header_bits = 0;
  cabac_init_present_flag = 0;
  num_ref_idx_l0_default_active_minus1 = 0;
  num_ref_idx_l1_default_active_minus1 = 0;
  pps_slice_chroma_qp_offsets_present_flag = 0;
  weighted_pred_flag = 0;
  weighted_bipred_flag = 0;
  tiles_enabled_flag = 0;
  entropy_coding_sync_enabled_flag = 0;
  pps_loop_filter_across_slices_enabled_flag = 0;
  deblocking_filter_override_enabled_flag = 0;
  pps_deblocking_filter_disabled_flag = 0;
  lists_modification_present_flag = 0;
  slice_segment_header_extension_present_flag = 0;
}
