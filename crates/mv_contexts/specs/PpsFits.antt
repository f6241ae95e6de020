-- What slice segment headers need of a picture parameter set: each field within its limit.
use Rattle.std.specs.Prelude.{◌≤◌}
use Rattle.mv_syntax.specs.Words.{or_zero}
use Rattle.mv_pps.specs.Pps.{PpsValue}
use Rattle.mv_slice.specs.Context.{IsFlag}

pub record PpsFits (v : PpsValue) : Type 0 where
  pub extra_bits : v.opening.num_extra_slice_header_bits ≤ 7
  pub few_l0 : v.opening.num_ref_idx_l0_default_active_minus1 ≤ 14
  pub few_l1 : v.opening.num_ref_idx_l1_default_active_minus1 ≤ 14
  pub dependent_slice_segments_enabled_flag : IsFlag v.opening.dependent_slice_segments_enabled_flag
  pub output_flag_present_flag : IsFlag v.opening.output_flag_present_flag
  pub cabac_init_present_flag : IsFlag v.opening.cabac_init_present_flag
  pub pps_slice_chroma_qp_offsets_present_flag : IsFlag v.quantization.pps_slice_chroma_qp_offsets_present_flag
  pub weighted_pred_flag : IsFlag v.tools.weighted_pred_flag
  pub weighted_bipred_flag : IsFlag v.tools.weighted_bipred_flag
  pub tiles_enabled_flag : IsFlag v.tools.tiles_enabled_flag
  pub entropy_coding_sync_enabled_flag : IsFlag v.tools.entropy_coding_sync_enabled_flag
  pub pps_loop_filter_across_slices_enabled_flag : IsFlag v.pps_loop_filter_across_slices_enabled_flag
  pub deblocking_filter_override_enabled_flag : IsFlag (or_zero v.deblocking.deblocking_filter_override_enabled_flag)
  pub pps_deblocking_filter_disabled_flag : IsFlag (or_zero v.deblocking.pps_deblocking_filter_disabled_flag)
  pub lists_modification_present_flag : IsFlag v.lists_modification_present_flag
  pub slice_segment_header_extension_present_flag : IsFlag v.slice_segment_header_extension_present_flag
