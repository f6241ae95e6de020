-- How the pictures are coded, in a sequence parameter set (7.3.2.2.1, F.7.3.2.2.1): blocks, scaling lists, tools and references.
use Rattle.std.specs.Prelude.{ℕ, Bool, refl}
use Rattle.mv_syntax.specs.Table.{Table, u, named, shaped}
use Rattle.mv_syntax.specs.Words.{◌▸◌, ◌>>◌}
use Rattle.mv_sps.specs.declared.blocks.SpsBlocks.{SpsBlocks}
use Rattle.mv_sps.specs.declared.tools.SpsTools.{SpsTools}
use Rattle.mv_sps.specs.Blocks.{blocks}
use Rattle.mv_sps.specs.Scaling.{SpsScalingValue, scaling}
use Rattle.mv_sps.specs.Tools.{tools}
use Rattle.mv_sps.specs.References.{SpsReferencesValue, references}

pub record SpsCodingValue : Type 0 where
  pub blocks : SpsBlocks
  pub scaling : SpsScalingValue
  pub tools : SpsTools
  pub references : SpsReferencesValue
  pub sps_temporal_mvp_enabled_flag : ℕ
  pub strong_intra_smoothing_enabled_flag : ℕ

unfoldable pub coding : Bool → ℕ → Table SpsCodingValue
coding ext lsb_bits = shaped
    (λ (blocks, (scaling, (tools, (references, (sps_temporal_mvp_enabled_flag, strong_intra_smoothing_enabled_flag))))). record {
      blocks = blocks;
      scaling = scaling;
      tools = tools;
      references = references;
      sps_temporal_mvp_enabled_flag = sps_temporal_mvp_enabled_flag;
      strong_intra_smoothing_enabled_flag = strong_intra_smoothing_enabled_flag;
    })
    (λ v.
    v.blocks
    ▸ v.scaling
    ▸ v.tools
    ▸ v.references
    ▸ v.sps_temporal_mvp_enabled_flag
    ▸ v.strong_intra_smoothing_enabled_flag)
    (λ _. refl)
    do
      blocks
      scaling ext
      tools
      references lsb_bits
      named "sps_temporal_mvp_enabled_flag" (u 1)
      named "strong_intra_smoothing_enabled_flag" (u 1)
