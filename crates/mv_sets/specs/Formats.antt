-- What the format that a sequence parameter set codes is within (7.4.3.2.1).
use Rattle.std.specs.Prelude.{◌≤◌, ℕ, IfSome, Option, option_and_then}
use Rattle.mv_sps.specs.Sps.{SpsValue}
use Rattle.mv_sps.specs.declared.rep_format.SpsRepFormat.{SpsRepFormat}
use Rattle.mv_sps.specs.declared.picture_format.SpsPictureFormat.{SpsPictureFormat}

-- chroma_format_idc, bit_depth_luma_minus8 and bit_depth_chroma_minus8 are within their limits
pub record FormatFits (f : SpsPictureFormat) : Type 0 where
  pub chroma : f.chroma_format_idc ≤ 3
  pub luma_depth : f.bit_depth_luma_minus8 ≤ 8
  pub chroma_depth : f.bit_depth_chroma_minus8 ≤ 8

-- so they are in a sequence parameter set, where it codes them
abbrev pub SpsFormatFits : SpsValue → Type 0
SpsFormatFits sps = IfSome sps.pictures.picture_format FormatFits

-- sps_rep_format_idx, where it is coded
abbrev pub coded_index : Option SpsRepFormat → Option ℕ
coded_index field = option_and_then (λ (f : SpsRepFormat). f.sps_rep_format_idx) field
