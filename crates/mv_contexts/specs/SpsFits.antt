-- What slice segment headers need of a sequence parameter set: each field within its limit, and the lists whole.
use Rattle.std.specs.Prelude.{◌≡◌, ◌+◌, ◌^◌, ◌≤◌, ◌<◌, length}
use Rattle.std.specs.List.{All}
use Rattle.mv_syntax.specs.Words.{or_zero}
use Rattle.mv_short_sets.specs.ShortSet.{ValidSets}
use Rattle.mv_sps.specs.Sps.{SpsValue}
use Rattle.mv_slice.specs.Context.{IsFlag}

pub record SpsFits (v : SpsValue) : Type 0 where
  pub few_lsb_bits : v.pictures.log2_max_pic_order_cnt_lsb_minus4 ≤ 12
  pub small_blocks : v.coding.blocks.log2_min_luma_coding_block_size_minus3 + v.coding.blocks.log2_diff_max_min_luma_coding_block_size ≤ 3
  pub few_short_sets : v.coding.references.num_short_term_ref_pic_sets ≤ 64
  pub all_short_sets : length v.coding.references.st_ref_pic_set ≡ v.coding.references.num_short_term_ref_pic_sets
  pub valid_short_sets : ValidSets v.coding.references.num_short_term_ref_pic_sets v.coding.references.st_ref_pic_set
  pub few_long_terms : or_zero v.coding.references.num_long_term_ref_pics_sps ≤ 32
  pub all_lsbs : length v.coding.references.lt_ref_pic_poc_lsb_sps ≡ or_zero v.coding.references.num_long_term_ref_pics_sps
  pub lsbs : All (λ lsb. lsb < 2 ^ (v.pictures.log2_max_pic_order_cnt_lsb_minus4 + 4)) v.coding.references.lt_ref_pic_poc_lsb_sps
  pub all_used : length v.coding.references.used_by_curr_pic_lt_sps_flag ≡ or_zero v.coding.references.num_long_term_ref_pics_sps
  pub used : All IsFlag v.coding.references.used_by_curr_pic_lt_sps_flag
  pub long_term_ref_pics_present_flag : IsFlag v.coding.references.long_term_ref_pics_present_flag
  pub sps_temporal_mvp_enabled_flag : IsFlag v.coding.sps_temporal_mvp_enabled_flag
  pub sample_adaptive_offset_enabled_flag : IsFlag v.coding.tools.sample_adaptive_offset_enabled_flag
