-- The coding tools of a sequence parameter set (7.3.2.2.1).
use Rattle.std.specs.Prelude.{Bool, refl}
use Rattle.mv_syntax.specs.Table.{Table, ◌>>=◌, u, ue, named, when, shaped}
use Rattle.mv_syntax.specs.Words.{◌▸◌, ◌>>◌, is_set}
use Rattle.mv_sps.specs.declared.tools.SpsTools.{SpsTools}

unfoldable pub tools : Table SpsTools
tools = shaped
    (λ (amp_enabled_flag, (sample_adaptive_offset_enabled_flag, (pcm_enabled_flag, (pcm_sample_bit_depth_luma_minus1, (pcm_sample_bit_depth_chroma_minus1, (log2_min_pcm_luma_coding_block_size_minus3, (log2_diff_max_min_pcm_luma_coding_block_size, pcm_loop_filter_disabled_flag))))))). record {
      amp_enabled_flag = amp_enabled_flag;
      sample_adaptive_offset_enabled_flag = sample_adaptive_offset_enabled_flag;
      pcm_enabled_flag = pcm_enabled_flag;
      pcm_sample_bit_depth_luma_minus1 = pcm_sample_bit_depth_luma_minus1;
      pcm_sample_bit_depth_chroma_minus1 = pcm_sample_bit_depth_chroma_minus1;
      log2_min_pcm_luma_coding_block_size_minus3 = log2_min_pcm_luma_coding_block_size_minus3;
      log2_diff_max_min_pcm_luma_coding_block_size = log2_diff_max_min_pcm_luma_coding_block_size;
      pcm_loop_filter_disabled_flag = pcm_loop_filter_disabled_flag;
    })
    (λ v.
    v.amp_enabled_flag
    ▸ v.sample_adaptive_offset_enabled_flag
    ▸ v.pcm_enabled_flag
    ▸ v.pcm_sample_bit_depth_luma_minus1
    ▸ v.pcm_sample_bit_depth_chroma_minus1
    ▸ v.log2_min_pcm_luma_coding_block_size_minus3
    ▸ v.log2_diff_max_min_pcm_luma_coding_block_size
    ▸ v.pcm_loop_filter_disabled_flag)
    (λ _. refl)
    do
      named "amp_enabled_flag" (u 1)
      named "sample_adaptive_offset_enabled_flag" (u 1)
      pcm_enabled_flag ← named "pcm_enabled_flag" (u 1)
      let pcm : Bool = is_set pcm_enabled_flag in do
        named "pcm_sample_bit_depth_luma_minus1" (when pcm (u 4))
        named "pcm_sample_bit_depth_chroma_minus1" (when pcm (u 4))
        named "log2_min_pcm_luma_coding_block_size_minus3" (when pcm ue)
        named "log2_diff_max_min_pcm_luma_coding_block_size" (when pcm ue)
        named "pcm_loop_filter_disabled_flag" (when pcm (u 1))
