-- The formats of pictures that a video parameter set's extension lists (F.7.4.3.1.1, F.7.4.3.1.2).
use Rattle.std.specs.Prelude.{ℕ, ◌+◌, List, [], map, take, Option, Some, None, option_map}
use Rattle.std.specs.List.{slice_get}
use Rattle.mv_syntax.specs.Words.{last_coded}
use Rattle.mv_common.specs.declared.format.Format.{Format}
use Rattle.mv_vpsext.specs.declared.rep_format.ChromaAndDepth.{ChromaAndDepth}
use Rattle.mv_vpsext.specs.declared.rep_format.RepFormat.{RepFormat}
use Rattle.mv_vpsext.specs.VpsExt.{VpsExtValue}

-- a chroma format and bit depths for where none were coded, which no valid list has
abbrev pub no_chroma : ChromaAndDepth
no_chroma = record { chroma_format_vps_idc = 0; separate_colour_plane_vps_flag = None; bit_depth_vps_luma_minus8 = 0; bit_depth_vps_chroma_minus8 = 0 }

-- the chroma format and the bit depths behind some formats: those that were coded last
abbrev pub chroma_behind : List RepFormat → ChromaAndDepth
chroma_behind formats = last_coded (map (λ (f : RepFormat). f.chroma_and_depth) formats) no_chroma

-- a format with its own size in luma samples, and with this chroma format and these bit depths
abbrev pub format_with : ChromaAndDepth → RepFormat → Format
format_with chroma f = record {
  width = f.pic_width_vps_in_luma_samples;
  height = f.pic_height_vps_in_luma_samples;
  chroma = chroma.chroma_format_vps_idc;
  luma_depth = 8 + chroma.bit_depth_vps_luma_minus8;
  chroma_depth = 8 + chroma.bit_depth_vps_chroma_minus8;
}

-- the format of index k, if there is one: chroma format and bit depths that it doesn't code are those of the format before
abbrev pub format_at : List RepFormat → ℕ → Option Format
format_at formats k = option_map (format_with (chroma_behind (take (k + 1) formats))) (slice_get formats k)

-- without an extension there is none
abbrev pub rep_formats_of : Option VpsExtValue → List RepFormat
rep_formats_of None = []
rep_formats_of (Some ext) = ext.formats.rep_formats
