-- pic_parameter_set_rbsp (7.3.2.3.1, F.7.3.2.3.1), part by part: each part is a run of its lines.
use Rattle.std.specs.Prelude.{ℕ, Bool, false, List, Option, Some, None, refl}
use Rattle.mv_syntax.specs.Table.{Table, ◌>>=◌, u, ue, named, when, shaped}
use Rattle.mv_syntax.specs.Words.{◌under◌, ◌▸◌, ◌⊗◌, ◌>>◌, over, is_set}
use Rattle.mv_syntax.specs.Payload.{Payload}
use Rattle.mv_rules.specs.declared.rule.Rule.TheVariants.{PpsLimit}
use Rattle.mv_common.specs.ScalingListValue.{ScalingListValue}
use Rattle.mv_common.specs.ScalingLists.{scaling_list_data}
use Rattle.mv_pps.specs.declared.opening.PpsOpening.{PpsOpening}
use Rattle.mv_pps.specs.declared.quantization.PpsQuantization.{PpsQuantization}
use Rattle.mv_pps.specs.declared.tools.PpsTools.{PpsTools}
use Rattle.mv_pps.specs.declared.deblocking.PpsDeblocking.{PpsDeblocking}
use Rattle.mv_pps.specs.declared.extension.PpsExtension.{PpsExtension}
use Rattle.mv_pps.specs.Opening.{opening}
use Rattle.mv_pps.specs.Quantization.{quantization}
use Rattle.mv_pps.specs.Tools.{tools}
use Rattle.mv_pps.specs.Tiles.{PpsTilesValue, tiles}
use Rattle.mv_pps.specs.Deblocking.{deblocking}
use Rattle.mv_pps.specs.Extension.{extension}

-- the fields in coded order, in parts; a part that is not coded is None
pub record PpsValue : Type 0 where
  pub opening : PpsOpening
  pub quantization : PpsQuantization
  pub tools : PpsTools
  pub tiles : Option PpsTilesValue
  pub pps_loop_filter_across_slices_enabled_flag : ℕ
  pub deblocking : PpsDeblocking
  pub pps_scaling_list_data_present_flag : ℕ
  pub scaling_list_data : Option (List (List ScalingListValue))
  pub lists_modification_present_flag : ℕ
  pub log2_parallel_merge_level_minus2 : ℕ
  pub slice_segment_header_extension_present_flag : ℕ
  pub pps_extension_present_flag : ℕ
  pub extension : Option PpsExtension

-- the parts behind the opening, in coded order
abbrev pub BehindOpening : Type 0
BehindOpening =
    PpsQuantization
    ⊗ PpsTools
    ⊗ Option PpsTilesValue
    ⊗ ℕ
    ⊗ PpsDeblocking
    ⊗ ℕ
    ⊗ Option (List (List ScalingListValue))
    ⊗ ℕ
    ⊗ ℕ
    ⊗ ℕ
    ⊗ ℕ
    ⊗ Option PpsExtension

unfoldable pub behind_opening : Table BehindOpening
behind_opening = do
  quantization
  coding_tools ← tools
  when (is_set coding_tools.tiles_enabled_flag) tiles
  named "pps_loop_filter_across_slices_enabled_flag" (u 1)
  deblocking
  pps_scaling_list_data_present_flag ← named "pps_scaling_list_data_present_flag" (u 1)
  when (is_set pps_scaling_list_data_present_flag) (scaling_list_data under PpsLimit)
  named "lists_modification_present_flag" (u 1)
  named "log2_parallel_merge_level_minus2" ue
  named "slice_segment_header_extension_present_flag" (u 1)
  pps_extension_present_flag ← named "pps_extension_present_flag" (u 1)
  when (is_set pps_extension_present_flag) extension

-- a value's opening, and its parts behind that
abbrev pub in_parts : PpsValue → PpsOpening × BehindOpening
in_parts v =
    v.opening
    ▸ v.quantization
    ▸ v.tools
    ▸ v.tiles
    ▸ v.pps_loop_filter_across_slices_enabled_flag
    ▸ v.deblocking
    ▸ v.pps_scaling_list_data_present_flag
    ▸ v.scaling_list_data
    ▸ v.lists_modification_present_flag
    ▸ v.log2_parallel_merge_level_minus2
    ▸ v.slice_segment_header_extension_present_flag
    ▸ v.pps_extension_present_flag
    ▸ v.extension

-- the fields up to the tail
unfoldable pub pps_fields : Table PpsValue
pps_fields = shaped
    (λ (opening, (quantization, (tools, (tiles, (pps_loop_filter_across_slices_enabled_flag, (deblocking, (pps_scaling_list_data_present_flag, (scaling_list_data, (lists_modification_present_flag, (log2_parallel_merge_level_minus2, (slice_segment_header_extension_present_flag, (pps_extension_present_flag, extension)))))))))))). record {
      opening = opening;
      quantization = quantization;
      tools = tools;
      tiles = tiles;
      pps_loop_filter_across_slices_enabled_flag = pps_loop_filter_across_slices_enabled_flag;
      deblocking = deblocking;
      pps_scaling_list_data_present_flag = pps_scaling_list_data_present_flag;
      scaling_list_data = scaling_list_data;
      lists_modification_present_flag = lists_modification_present_flag;
      log2_parallel_merge_level_minus2 = log2_parallel_merge_level_minus2;
      slice_segment_header_extension_present_flag = slice_segment_header_extension_present_flag;
      pps_extension_present_flag = pps_extension_present_flag;
      extension = extension;
    })
    in_parts
    (λ _. refl)
    do
      opening
      behind_opening

-- a tail stands behind the fields where pps_extension_4bits is above 0
abbrev pub has_tail : Option PpsExtension → Bool
has_tail (Some extended) = over 0 extended.pps_extension_4bits
has_tail None = false

-- the payload: at most 65,536 bytes, or else the limit rule (this project's profile); the fields, the tail
-- (pps_extension_data_flag) and the trailing bits
abbrev pub pps : Payload PpsValue
pps = record { fields = pps_fields; size_rule = PpsLimit; has_tail = λ v. has_tail v.extension }
