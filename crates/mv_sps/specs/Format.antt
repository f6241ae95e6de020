-- The format of the pictures in a sequence parameter set (7.3.2.2.1, F.7.3.2.2.1): an index into the formats of the VPS, or
-- the format itself.
use Rattle.std.specs.Prelude.{ℕ, Bool, ◌||◌, nat_eq, refl}
use Rattle.mv_syntax.specs.Table.{Table, ◌>>=◌, u, ue, named, when, shaped}
use Rattle.mv_syntax.specs.Words.{◌▸◌, ◌>>◌, ◌!◌∶◌, over, is_set}
use Rattle.mv_rules.specs.declared.rule.Rule.TheVariants.{ColourPlanes, SpsLimit}
use Rattle.mv_sps.specs.declared.rep_format.SpsRepFormat.{SpsRepFormat}
use Rattle.mv_sps.specs.declared.picture_format.SpsPictureFormat.{SpsPictureFormat}

-- with MultiLayerExtSpsFlag: the index, where it isn't the layer's own of the VPS
unfoldable pub rep_format : Table SpsRepFormat
rep_format = shaped
    (λ (update_rep_format_flag, sps_rep_format_idx). record {
      update_rep_format_flag = update_rep_format_flag;
      sps_rep_format_idx = sps_rep_format_idx;
    })
    (λ v.
    v.update_rep_format_flag
    ▸ v.sps_rep_format_idx)
    (λ _. refl)
    do
      update_rep_format_flag ← named "update_rep_format_flag" (u 1)
      named "sps_rep_format_idx" (when (is_set update_rep_format_flag) (u 8))

-- a width or height of 0 or over 16,384 (this project's profile)
abbrev pub no_side : ℕ → Bool
no_side n = nat_eq n 0 || over 16384 n

-- without it: the format; three colour planes coded apart break rule 34; a chroma format over 3, a width or height of 0 or
-- over 16,384 and a bit depth over 16 break the limit rule (this project's profile)
unfoldable pub picture_format : Table SpsPictureFormat
picture_format = shaped
    (λ (chroma_format_idc, (separate_colour_plane_flag, (pic_width_in_luma_samples, (pic_height_in_luma_samples, (conformance_window_flag, (conf_win_left_offset, (conf_win_right_offset, (conf_win_top_offset, (conf_win_bottom_offset, (bit_depth_luma_minus8, bit_depth_chroma_minus8)))))))))). record {
      chroma_format_idc = chroma_format_idc;
      separate_colour_plane_flag = separate_colour_plane_flag;
      pic_width_in_luma_samples = pic_width_in_luma_samples;
      pic_height_in_luma_samples = pic_height_in_luma_samples;
      conformance_window_flag = conformance_window_flag;
      conf_win_left_offset = conf_win_left_offset;
      conf_win_right_offset = conf_win_right_offset;
      conf_win_top_offset = conf_win_top_offset;
      conf_win_bottom_offset = conf_win_bottom_offset;
      bit_depth_luma_minus8 = bit_depth_luma_minus8;
      bit_depth_chroma_minus8 = bit_depth_chroma_minus8;
    })
    (λ v.
    v.chroma_format_idc
    ▸ v.separate_colour_plane_flag
    ▸ v.pic_width_in_luma_samples
    ▸ v.pic_height_in_luma_samples
    ▸ v.conformance_window_flag
    ▸ v.conf_win_left_offset
    ▸ v.conf_win_right_offset
    ▸ v.conf_win_top_offset
    ▸ v.conf_win_bottom_offset
    ▸ v.bit_depth_luma_minus8
    ▸ v.bit_depth_chroma_minus8)
    (λ _. refl)
    do
      chroma_format_idc ← named "chroma_format_idc" (ue ! SpsLimit ∶ over 3)
      named "separate_colour_plane_flag" (when (nat_eq chroma_format_idc 3) (u 1 ! ColourPlanes ∶ is_set))
      named "pic_width_in_luma_samples" (ue ! SpsLimit ∶ no_side)
      named "pic_height_in_luma_samples" (ue ! SpsLimit ∶ no_side)
      conformance_window_flag ← named "conformance_window_flag" (u 1)
      let window : Bool = is_set conformance_window_flag in do
        named "conf_win_left_offset" (when window ue)
        named "conf_win_right_offset" (when window ue)
        named "conf_win_top_offset" (when window ue)
        named "conf_win_bottom_offset" (when window ue)
        named "bit_depth_luma_minus8" (ue ! SpsLimit ∶ over 8)
        named "bit_depth_chroma_minus8" (ue ! SpsLimit ∶ over 8)
