-- The sizes of the blocks in a sequence parameter set (7.3.2.2.1). A coding tree block of over 64 samples a side breaks the
-- limit rule (this project's profile).
use Rattle.std.specs.Prelude.{◌+◌, refl}
use Rattle.mv_syntax.specs.Table.{Table, ◌>>=◌, ue, named, shaped}
use Rattle.mv_syntax.specs.Words.{◌▸◌, ◌>>◌, ◌!◌∶◌, over}
use Rattle.mv_rules.specs.declared.rule.Rule.TheVariants.{SpsLimit}
use Rattle.mv_sps.specs.declared.blocks.SpsBlocks.{SpsBlocks}

unfoldable pub blocks : Table SpsBlocks
blocks = shaped
    (λ (log2_min_luma_coding_block_size_minus3, (log2_diff_max_min_luma_coding_block_size, (log2_min_luma_transform_block_size_minus2, (log2_diff_max_min_luma_transform_block_size, (max_transform_hierarchy_depth_inter, max_transform_hierarchy_depth_intra))))). record {
      log2_min_luma_coding_block_size_minus3 = log2_min_luma_coding_block_size_minus3;
      log2_diff_max_min_luma_coding_block_size = log2_diff_max_min_luma_coding_block_size;
      log2_min_luma_transform_block_size_minus2 = log2_min_luma_transform_block_size_minus2;
      log2_diff_max_min_luma_transform_block_size = log2_diff_max_min_luma_transform_block_size;
      max_transform_hierarchy_depth_inter = max_transform_hierarchy_depth_inter;
      max_transform_hierarchy_depth_intra = max_transform_hierarchy_depth_intra;
    })
    (λ v.
    v.log2_min_luma_coding_block_size_minus3
    ▸ v.log2_diff_max_min_luma_coding_block_size
    ▸ v.log2_min_luma_transform_block_size_minus2
    ▸ v.log2_diff_max_min_luma_transform_block_size
    ▸ v.max_transform_hierarchy_depth_inter
    ▸ v.max_transform_hierarchy_depth_intra)
    (λ _. refl)
    do
      log2_min_luma_coding_block_size_minus3 ← named "log2_min_luma_coding_block_size_minus3" (ue ! SpsLimit ∶ over 3)
      named "log2_diff_max_min_luma_coding_block_size" (ue ! SpsLimit ∶ (λ n. over 3 (log2_min_luma_coding_block_size_minus3 + n)))
      named "log2_min_luma_transform_block_size_minus2" ue
      named "log2_diff_max_min_luma_transform_block_size" ue
      named "max_transform_hierarchy_depth_inter" ue
      named "max_transform_hierarchy_depth_intra" ue
