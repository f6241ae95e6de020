-- vps_extension (F.7.3.2.1.1), fifth part, up to vps_rep_format_idx: the formats of pictures.
use Rattle.std.specs.Prelude.{ℕ, ◌+◌, Bool, not, ◌&&◌, ◌||◌, List, Option, refl, nat_eq}
use Rattle.mv_syntax.specs.Table.{Table, ◌>>=◌, u, ue, named, when, shaped}
use Rattle.mv_syntax.specs.Words.{◌▸◌, ◌>>◌, ◌!◌∶◌, over, is_set, coded_set}
use Rattle.mv_syntax.specs.Loops.{items}
use Rattle.mv_rules.specs.declared.rule.Rule.TheVariants.{VpsLimit}
use Rattle.mv_vpsext.specs.declared.rep_format.ChromaAndDepth.{ChromaAndDepth}
use Rattle.mv_vpsext.specs.declared.rep_format.ConformanceWindow.{ConformanceWindow}
use Rattle.mv_vpsext.specs.declared.rep_format.RepFormat.{RepFormat}
use Rattle.mv_fields.specs.Widths.{clog2}

-- a width or height in luma samples is 1 to 16,384, or else breaks the limit rule, 26 (this project's profile)
abbrev pub no_side : ℕ → Bool
no_side samples = nat_eq samples 0 || over 16384 samples

-- coded where chroma_and_bit_depth_vps_present_flag is 1
unfoldable pub chroma_and_depth : Table ChromaAndDepth
chroma_and_depth = shaped
    (λ (chroma_format_vps_idc, (separate_colour_plane_vps_flag, (bit_depth_vps_luma_minus8, bit_depth_vps_chroma_minus8))). record {
      chroma_format_vps_idc = chroma_format_vps_idc;
      separate_colour_plane_vps_flag = separate_colour_plane_vps_flag;
      bit_depth_vps_luma_minus8 = bit_depth_vps_luma_minus8;
      bit_depth_vps_chroma_minus8 = bit_depth_vps_chroma_minus8;
    })
    (λ v.
    v.chroma_format_vps_idc
    ▸ v.separate_colour_plane_vps_flag
    ▸ v.bit_depth_vps_luma_minus8
    ▸ v.bit_depth_vps_chroma_minus8)
    (λ _. refl)
    do
      chroma_format_vps_idc ← named "chroma_format_vps_idc" (u 2)
      named "separate_colour_plane_vps_flag" (when (nat_eq chroma_format_vps_idc 3) (u 1 ! VpsLimit ∶ is_set))
      named "bit_depth_vps_luma_minus8" (u 4 ! VpsLimit ∶ over 8)
      named "bit_depth_vps_chroma_minus8" (u 4 ! VpsLimit ∶ over 8)

-- coded where conformance_window_vps_flag is 1
unfoldable pub conformance_window : Table ConformanceWindow
conformance_window = shaped
    (λ (conf_win_vps_left_offset, (conf_win_vps_right_offset, (conf_win_vps_top_offset, conf_win_vps_bottom_offset))). record {
      conf_win_vps_left_offset = conf_win_vps_left_offset;
      conf_win_vps_right_offset = conf_win_vps_right_offset;
      conf_win_vps_top_offset = conf_win_vps_top_offset;
      conf_win_vps_bottom_offset = conf_win_vps_bottom_offset;
    })
    (λ v.
    v.conf_win_vps_left_offset
    ▸ v.conf_win_vps_right_offset
    ▸ v.conf_win_vps_top_offset
    ▸ v.conf_win_vps_bottom_offset)
    (λ _. refl)
    do
      named "conf_win_vps_left_offset" ue
      named "conf_win_vps_right_offset" ue
      named "conf_win_vps_top_offset" ue
      named "conf_win_vps_bottom_offset" ue

-- the flag is 0 in the first format, which has none before it (26)
abbrev pub lacks_chroma : ℕ → ℕ → Bool
lacks_chroma i flag = nat_eq i 0 && not (is_set flag)

-- rep_format (F.7.3.2.1.2), of index i
unfoldable pub rep_format : ℕ → Table RepFormat
rep_format i = shaped
    (λ (pic_width_vps_in_luma_samples, (pic_height_vps_in_luma_samples, (chroma_and_bit_depth_vps_present_flag, (chroma_and_depth, (conformance_window_vps_flag, conformance_window))))). record {
      pic_width_vps_in_luma_samples = pic_width_vps_in_luma_samples;
      pic_height_vps_in_luma_samples = pic_height_vps_in_luma_samples;
      chroma_and_bit_depth_vps_present_flag = chroma_and_bit_depth_vps_present_flag;
      chroma_and_depth = chroma_and_depth;
      conformance_window_vps_flag = conformance_window_vps_flag;
      conformance_window = conformance_window;
    })
    (λ v.
    v.pic_width_vps_in_luma_samples
    ▸ v.pic_height_vps_in_luma_samples
    ▸ v.chroma_and_bit_depth_vps_present_flag
    ▸ v.chroma_and_depth
    ▸ v.conformance_window_vps_flag
    ▸ v.conformance_window)
    (λ _. refl)
    do
      named "pic_width_vps_in_luma_samples" (u 16 ! VpsLimit ∶ no_side)
      named "pic_height_vps_in_luma_samples" (u 16 ! VpsLimit ∶ no_side)
      chroma_and_bit_depth_vps_present_flag ← named "chroma_and_bit_depth_vps_present_flag" (u 1 ! VpsLimit ∶ lacks_chroma i)
      when (is_set chroma_and_bit_depth_vps_present_flag) chroma_and_depth
      conformance_window_vps_flag ← named "conformance_window_vps_flag" (u 1)
      when (is_set conformance_window_vps_flag) conformance_window

-- for i = 0 to vps_num_rep_formats_minus1
unfoldable pub rep_formats : ℕ → Table (List RepFormat)
rep_formats vps_num_rep_formats_minus1 = items 0 (vps_num_rep_formats_minus1 + 1) rep_format

-- for i = 1 to vps_max_layers_minus1
unfoldable pub rep_format_idx : ℕ → ℕ → Table ℕ
rep_format_idx vps_num_rep_formats_minus1 i =
    named "vps_rep_format_idx" (u (clog2 (vps_num_rep_formats_minus1 + 1)) ! VpsLimit ∶ over vps_num_rep_formats_minus1)

unfoldable pub rep_format_idxs : ℕ → ℕ → Table (List ℕ)
rep_format_idxs vps_max_layers_minus1 vps_num_rep_formats_minus1 = items 1 vps_max_layers_minus1 (rep_format_idx vps_num_rep_formats_minus1)

pub record VpsFormatsValue : Type 0 where
  pub vps_num_rep_formats_minus1 : ℕ
  pub rep_formats : List RepFormat
  pub rep_format_idx_present_flag : Option ℕ
  pub vps_rep_format_idx : Option (List ℕ)

unfoldable pub formats : ℕ → Table VpsFormatsValue
formats vps_max_layers_minus1 = shaped
    (λ (vps_num_rep_formats_minus1, (rep_formats, (rep_format_idx_present_flag, vps_rep_format_idx))). record {
      vps_num_rep_formats_minus1 = vps_num_rep_formats_minus1;
      rep_formats = rep_formats;
      rep_format_idx_present_flag = rep_format_idx_present_flag;
      vps_rep_format_idx = vps_rep_format_idx;
    })
    (λ v.
    v.vps_num_rep_formats_minus1
    ▸ v.rep_formats
    ▸ v.rep_format_idx_present_flag
    ▸ v.vps_rep_format_idx)
    (λ _. refl)
    do
      vps_num_rep_formats_minus1 ← named "vps_num_rep_formats_minus1" (ue ! VpsLimit ∶ over 255)
      rep_formats vps_num_rep_formats_minus1
      rep_format_idx_present_flag ← named "rep_format_idx_present_flag" (when (over 0 vps_num_rep_formats_minus1) (u 1))
      when (coded_set rep_format_idx_present_flag) (rep_format_idxs vps_max_layers_minus1 vps_num_rep_formats_minus1)
