-- vui_parameters (E.2.1), part by part: each part is a run of its lines.
use Rattle.std.specs.Prelude.{ℕ, Bool, true, false, Option, nat_eq, refl}
use Rattle.mv_syntax.specs.Table.{Table, ◌>>=◌, u, ue, named, when, shaped}
use Rattle.mv_syntax.specs.Words.{◌▸◌, ◌>>◌, is_set, or_zero, coded_set}
use Rattle.mv_common.specs.Hrd.{HrdValue, hrd_parameters}
use Rattle.mv_common.specs.declared.hrd_common.HrdFlags.{HrdFlags}
use Rattle.mv_common.specs.declared.vui_parts.AspectRatio.{AspectRatio}
use Rattle.mv_common.specs.declared.vui_parts.Overscan.{Overscan}
use Rattle.mv_common.specs.declared.vui_parts.VideoSignalType.{VideoSignalType}
use Rattle.mv_common.specs.declared.vui_parts.ChromaLocation.{ChromaLocation}
use Rattle.mv_common.specs.declared.vui_parts.DisplayWindow.{DisplayWindow}
use Rattle.mv_common.specs.declared.vui_parts.BitstreamRestriction.{BitstreamRestriction}

unfoldable pub aspect_ratio : Table AspectRatio
aspect_ratio = shaped
    (λ (aspect_ratio_info_present_flag, (aspect_ratio_idc, (sar_width, sar_height))). record {
      aspect_ratio_info_present_flag = aspect_ratio_info_present_flag;
      aspect_ratio_idc = aspect_ratio_idc;
      sar_width = sar_width;
      sar_height = sar_height;
    })
    (λ v.
    v.aspect_ratio_info_present_flag
    ▸ v.aspect_ratio_idc
    ▸ v.sar_width
    ▸ v.sar_height)
    (λ _. refl)
    do
      aspect_ratio_info_present_flag ← named "aspect_ratio_info_present_flag" (u 1)
      aspect_ratio_idc ← named "aspect_ratio_idc" (when (is_set aspect_ratio_info_present_flag) (u 8))
      let extended : Bool = nat_eq (or_zero aspect_ratio_idc) 255 in do
        named "sar_width" (when extended (u 16))
        named "sar_height" (when extended (u 16))

unfoldable pub overscan : Table Overscan
overscan = shaped
    (λ c. record { overscan_info_present_flag = c.0; overscan_appropriate_flag = c.1 })
    (λ v.
    v.overscan_info_present_flag
    ▸ v.overscan_appropriate_flag)
    (λ _. refl)
    do
      overscan_info_present_flag ← named "overscan_info_present_flag" (u 1)
      named "overscan_appropriate_flag" (when (is_set overscan_info_present_flag) (u 1))

unfoldable pub video_signal_type : Table VideoSignalType
video_signal_type = shaped
    (λ (video_signal_type_present_flag, (video_format, (video_full_range_flag, (colour_description_present_flag, (colour_primaries, (transfer_characteristics, matrix_coeffs)))))). record {
      video_signal_type_present_flag = video_signal_type_present_flag;
      video_format = video_format;
      video_full_range_flag = video_full_range_flag;
      colour_description_present_flag = colour_description_present_flag;
      colour_primaries = colour_primaries;
      transfer_characteristics = transfer_characteristics;
      matrix_coeffs = matrix_coeffs;
    })
    (λ v.
    v.video_signal_type_present_flag
    ▸ v.video_format
    ▸ v.video_full_range_flag
    ▸ v.colour_description_present_flag
    ▸ v.colour_primaries
    ▸ v.transfer_characteristics
    ▸ v.matrix_coeffs)
    (λ _. refl)
    do
      video_signal_type_present_flag ← named "video_signal_type_present_flag" (u 1)
      let present : Bool = is_set video_signal_type_present_flag in do
        named "video_format" (when present (u 3))
        named "video_full_range_flag" (when present (u 1))
        colour_description_present_flag ← named "colour_description_present_flag" (when present (u 1))
        let described : Bool = coded_set colour_description_present_flag in do
          named "colour_primaries" (when described (u 8))
          named "transfer_characteristics" (when described (u 8))
          named "matrix_coeffs" (when described (u 8))

unfoldable pub chroma_location : Table ChromaLocation
chroma_location = shaped
    (λ (chroma_loc_info_present_flag, (chroma_sample_loc_type_top_field, chroma_sample_loc_type_bottom_field)). record {
      chroma_loc_info_present_flag = chroma_loc_info_present_flag;
      chroma_sample_loc_type_top_field = chroma_sample_loc_type_top_field;
      chroma_sample_loc_type_bottom_field = chroma_sample_loc_type_bottom_field;
    })
    (λ v.
    v.chroma_loc_info_present_flag
    ▸ v.chroma_sample_loc_type_top_field
    ▸ v.chroma_sample_loc_type_bottom_field)
    (λ _. refl)
    do
      chroma_loc_info_present_flag ← named "chroma_loc_info_present_flag" (u 1)
      let present : Bool = is_set chroma_loc_info_present_flag in do
        named "chroma_sample_loc_type_top_field" (when present ue)
        named "chroma_sample_loc_type_bottom_field" (when present ue)

unfoldable pub display_window : Table DisplayWindow
display_window = shaped
    (λ (default_display_window_flag, (def_disp_win_left_offset, (def_disp_win_right_offset, (def_disp_win_top_offset, def_disp_win_bottom_offset)))). record {
      default_display_window_flag = default_display_window_flag;
      def_disp_win_left_offset = def_disp_win_left_offset;
      def_disp_win_right_offset = def_disp_win_right_offset;
      def_disp_win_top_offset = def_disp_win_top_offset;
      def_disp_win_bottom_offset = def_disp_win_bottom_offset;
    })
    (λ v.
    v.default_display_window_flag
    ▸ v.def_disp_win_left_offset
    ▸ v.def_disp_win_right_offset
    ▸ v.def_disp_win_top_offset
    ▸ v.def_disp_win_bottom_offset)
    (λ _. refl)
    do
      default_display_window_flag ← named "default_display_window_flag" (u 1)
      let present : Bool = is_set default_display_window_flag in do
        named "def_disp_win_left_offset" (when present ue)
        named "def_disp_win_right_offset" (when present ue)
        named "def_disp_win_top_offset" (when present ue)
        named "def_disp_win_bottom_offset" (when present ue)

unfoldable pub bitstream_restriction : Table BitstreamRestriction
bitstream_restriction = shaped
    (λ (bitstream_restriction_flag, (tiles_fixed_structure_flag, (motion_vectors_over_pic_boundaries_flag, (restricted_ref_pic_lists_flag, (min_spatial_segmentation_idc, (max_bytes_per_pic_denom, (max_bits_per_min_cu_denom, (log2_max_mv_length_horizontal, log2_max_mv_length_vertical)))))))). record {
      bitstream_restriction_flag = bitstream_restriction_flag;
      tiles_fixed_structure_flag = tiles_fixed_structure_flag;
      motion_vectors_over_pic_boundaries_flag = motion_vectors_over_pic_boundaries_flag;
      restricted_ref_pic_lists_flag = restricted_ref_pic_lists_flag;
      min_spatial_segmentation_idc = min_spatial_segmentation_idc;
      max_bytes_per_pic_denom = max_bytes_per_pic_denom;
      max_bits_per_min_cu_denom = max_bits_per_min_cu_denom;
      log2_max_mv_length_horizontal = log2_max_mv_length_horizontal;
      log2_max_mv_length_vertical = log2_max_mv_length_vertical;
    })
    (λ v.
    v.bitstream_restriction_flag
    ▸ v.tiles_fixed_structure_flag
    ▸ v.motion_vectors_over_pic_boundaries_flag
    ▸ v.restricted_ref_pic_lists_flag
    ▸ v.min_spatial_segmentation_idc
    ▸ v.max_bytes_per_pic_denom
    ▸ v.max_bits_per_min_cu_denom
    ▸ v.log2_max_mv_length_horizontal
    ▸ v.log2_max_mv_length_vertical)
    (λ _. refl)
    do
      bitstream_restriction_flag ← named "bitstream_restriction_flag" (u 1)
      let present : Bool = is_set bitstream_restriction_flag in do
        named "tiles_fixed_structure_flag" (when present (u 1))
        named "motion_vectors_over_pic_boundaries_flag" (when present (u 1))
        named "restricted_ref_pic_lists_flag" (when present (u 1))
        named "min_spatial_segmentation_idc" (when present ue)
        named "max_bytes_per_pic_denom" (when present ue)
        named "max_bits_per_min_cu_denom" (when present ue)
        named "log2_max_mv_length_horizontal" (when present ue)
        named "log2_max_mv_length_vertical" (when present ue)

pub record VuiTimingValue : Type 0 where
  pub vui_timing_info_present_flag : ℕ
  pub vui_num_units_in_tick : Option ℕ
  pub vui_time_scale : Option ℕ
  pub vui_poc_proportional_to_timing_flag : Option ℕ
  pub vui_num_ticks_poc_diff_one_minus1 : Option ℕ
  pub vui_hrd_parameters_present_flag : Option ℕ
  pub hrd_parameters : Option HrdValue

-- no hrd_parameters stands before the one of a VUI, whose first group is always coded
abbrev pub no_flags : HrdFlags
no_flags = record { nal = false; vcl = false; sub_pic = false }

unfoldable pub vui_timing : ℕ → Table VuiTimingValue
vui_timing subs = shaped
    (λ (vui_timing_info_present_flag, (vui_num_units_in_tick, (vui_time_scale, (vui_poc_proportional_to_timing_flag, (vui_num_ticks_poc_diff_one_minus1, (vui_hrd_parameters_present_flag, hrd_parameters)))))). record {
      vui_timing_info_present_flag = vui_timing_info_present_flag;
      vui_num_units_in_tick = vui_num_units_in_tick;
      vui_time_scale = vui_time_scale;
      vui_poc_proportional_to_timing_flag = vui_poc_proportional_to_timing_flag;
      vui_num_ticks_poc_diff_one_minus1 = vui_num_ticks_poc_diff_one_minus1;
      vui_hrd_parameters_present_flag = vui_hrd_parameters_present_flag;
      hrd_parameters = hrd_parameters;
    })
    (λ v.
    v.vui_timing_info_present_flag
    ▸ v.vui_num_units_in_tick
    ▸ v.vui_time_scale
    ▸ v.vui_poc_proportional_to_timing_flag
    ▸ v.vui_num_ticks_poc_diff_one_minus1
    ▸ v.vui_hrd_parameters_present_flag
    ▸ v.hrd_parameters)
    (λ _. refl)
    do
      vui_timing_info_present_flag ← named "vui_timing_info_present_flag" (u 1)
      let present : Bool = is_set vui_timing_info_present_flag in do
        named "vui_num_units_in_tick" (when present (u 32))
        named "vui_time_scale" (when present (u 32))
        vui_poc_proportional_to_timing_flag ← named "vui_poc_proportional_to_timing_flag" (when present (u 1))
        named "vui_num_ticks_poc_diff_one_minus1" (when (coded_set vui_poc_proportional_to_timing_flag) ue)
        vui_hrd_parameters_present_flag ← named "vui_hrd_parameters_present_flag" (when present (u 1))
        when (coded_set vui_hrd_parameters_present_flag) (hrd_parameters true subs no_flags)

pub record VuiValue : Type 0 where
  pub aspect_ratio : AspectRatio
  pub overscan : Overscan
  pub video_signal_type : VideoSignalType
  pub chroma_location : ChromaLocation
  pub neutral_chroma_indication_flag : ℕ
  pub field_seq_flag : ℕ
  pub frame_field_info_present_flag : ℕ
  pub display_window : DisplayWindow
  pub timing : VuiTimingValue
  pub bitstream_restriction : BitstreamRestriction

-- vui_parameters(subs)
unfoldable pub vui_parameters : ℕ → Table VuiValue
vui_parameters subs = shaped
    (λ (aspect_ratio, (overscan, (video_signal_type, (chroma_location, (neutral_chroma_indication_flag, (field_seq_flag, (frame_field_info_present_flag, (display_window, (timing, bitstream_restriction))))))))). record {
      aspect_ratio = aspect_ratio;
      overscan = overscan;
      video_signal_type = video_signal_type;
      chroma_location = chroma_location;
      neutral_chroma_indication_flag = neutral_chroma_indication_flag;
      field_seq_flag = field_seq_flag;
      frame_field_info_present_flag = frame_field_info_present_flag;
      display_window = display_window;
      timing = timing;
      bitstream_restriction = bitstream_restriction;
    })
    (λ v.
    v.aspect_ratio
    ▸ v.overscan
    ▸ v.video_signal_type
    ▸ v.chroma_location
    ▸ v.neutral_chroma_indication_flag
    ▸ v.field_seq_flag
    ▸ v.frame_field_info_present_flag
    ▸ v.display_window
    ▸ v.timing
    ▸ v.bitstream_restriction)
    (λ _. refl)
    do
      aspect_ratio
      overscan
      video_signal_type
      chroma_location
      named "neutral_chroma_indication_flag" (u 1)
      named "field_seq_flag" (u 1)
      named "frame_field_info_present_flag" (u 1)
      display_window
      vui_timing subs
      bitstream_restriction
