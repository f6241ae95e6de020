-- What slice segment headers take from the parameter sets that are in force.
use Rattle.std.specs.Prelude.{◌≡◌, ℕ, ◌^◌, ◌≤◌, ◌<◌, Bool, List, length, [], ◌∷◌}
use Rattle.std.specs.List.{All}
use Rattle.mv_short_sets.specs.ShortSetValue.{ShortSetValue}
use Rattle.mv_short_sets.specs.ShortSet.{ValidSets}

-- the values of the context, its lists as their items
pub record SliceContextValue : Type 0 where
  pub layer : ℕ
  pub directs : ℕ
  pub eligible : List ℕ
  pub poc_lsb_not_present_flag : ℕ
  pub default_ref_layers_active_flag : ℕ
  pub max_one_active_ref_layer_flag : ℕ
  pub ctbs : ℕ
  pub lsb_bits : ℕ
  pub chroma : Bool
  pub num_short_term_ref_pic_sets : ℕ
  pub short_sets : List ShortSetValue
  pub long_term_ref_pics_present_flag : ℕ
  pub num_long_term_ref_pics_sps : ℕ
  pub lt_ref_pic_poc_lsb_sps : List ℕ
  pub used_by_curr_pic_lt_sps_flag : List ℕ
  pub sps_temporal_mvp_enabled_flag : ℕ
  pub sample_adaptive_offset_enabled_flag : ℕ
  pub dependent_slice_segments_enabled_flag : ℕ
  pub output_flag_present_flag : ℕ
  pub num_extra_slice_header_bits : ℕ
  pub cabac_init_present_flag : ℕ
  pub num_ref_idx_l0_default_active_minus1 : ℕ
  pub num_ref_idx_l1_default_active_minus1 : ℕ
  pub pps_slice_chroma_qp_offsets_present_flag : ℕ
  pub weighted_pred_flag : ℕ
  pub weighted_bipred_flag : ℕ
  pub tiles_enabled_flag : ℕ
  pub entropy_coding_sync_enabled_flag : ℕ
  pub pps_loop_filter_across_slices_enabled_flag : ℕ
  pub deblocking_filter_override_enabled_flag : ℕ
  pub pps_deblocking_filter_disabled_flag : ℕ
  pub lists_modification_present_flag : ℕ
  pub slice_segment_header_extension_present_flag : ℕ

-- a flag, u(1), is 0 or 1
abbrev pub IsFlag : ℕ → Type 0
IsFlag flag = flag ≤ 1

-- numbers rise from one to the next
abbrev pub Rises : List ℕ → Type 0
Rises [] = Unit {0}
Rises (n ∷ more) = All (λ m. n < m) more × Rises more

-- a context fits: each number is within its limit, the short-term sets are the valid sets of a sequence parameter set, the
-- long-term lists are as long as it says, and the layers that may be referred to are among the direct reference layers
pub record Fits (c : SliceContextValue) : Type 0 where
  pub layer : c.layer ≤ 62
  pub directs : c.directs ≤ 62
  pub eligible_rise : Rises c.eligible
  pub eligible_below : All (λ i. i < c.directs) c.eligible
  pub some_ctbs : 1 ≤ c.ctbs
  pub few_ctbs : c.ctbs ≤ 4194304
  pub some_lsb_bits : 4 ≤ c.lsb_bits
  pub few_lsb_bits : c.lsb_bits ≤ 16
  pub few_short_sets : c.num_short_term_ref_pic_sets ≤ 64
  pub all_short_sets : length c.short_sets ≡ c.num_short_term_ref_pic_sets
  pub valid_short_sets : ValidSets c.num_short_term_ref_pic_sets c.short_sets
  pub few_long_terms : c.num_long_term_ref_pics_sps ≤ 32
  pub all_lsbs : length c.lt_ref_pic_poc_lsb_sps ≡ c.num_long_term_ref_pics_sps
  pub lsbs : All (λ lsb. lsb < 2 ^ c.lsb_bits) c.lt_ref_pic_poc_lsb_sps
  pub all_used : length c.used_by_curr_pic_lt_sps_flag ≡ c.num_long_term_ref_pics_sps
  pub used : All IsFlag c.used_by_curr_pic_lt_sps_flag
  pub extra_bits : c.num_extra_slice_header_bits ≤ 7
  pub few_l0 : c.num_ref_idx_l0_default_active_minus1 ≤ 14
  pub few_l1 : c.num_ref_idx_l1_default_active_minus1 ≤ 14
  pub poc_lsb_not_present_flag : IsFlag c.poc_lsb_not_present_flag
  pub default_ref_layers_active_flag : IsFlag c.default_ref_layers_active_flag
  pub max_one_active_ref_layer_flag : IsFlag c.max_one_active_ref_layer_flag
  pub long_term_ref_pics_present_flag : IsFlag c.long_term_ref_pics_present_flag
  pub sps_temporal_mvp_enabled_flag : IsFlag c.sps_temporal_mvp_enabled_flag
  pub sample_adaptive_offset_enabled_flag : IsFlag c.sample_adaptive_offset_enabled_flag
  pub dependent_slice_segments_enabled_flag : IsFlag c.dependent_slice_segments_enabled_flag
  pub output_flag_present_flag : IsFlag c.output_flag_present_flag
  pub cabac_init_present_flag : IsFlag c.cabac_init_present_flag
  pub pps_slice_chroma_qp_offsets_present_flag : IsFlag c.pps_slice_chroma_qp_offsets_present_flag
  pub weighted_pred_flag : IsFlag c.weighted_pred_flag
  pub weighted_bipred_flag : IsFlag c.weighted_bipred_flag
  pub tiles_enabled_flag : IsFlag c.tiles_enabled_flag
  pub entropy_coding_sync_enabled_flag : IsFlag c.entropy_coding_sync_enabled_flag
  pub pps_loop_filter_across_slices_enabled_flag : IsFlag c.pps_loop_filter_across_slices_enabled_flag
  pub deblocking_filter_override_enabled_flag : IsFlag c.deblocking_filter_override_enabled_flag
  pub pps_deblocking_filter_disabled_flag : IsFlag c.pps_deblocking_filter_disabled_flag
  pub lists_modification_present_flag : IsFlag c.lists_modification_present_flag
  pub slice_segment_header_extension_present_flag : IsFlag c.slice_segment_header_extension_present_flag
