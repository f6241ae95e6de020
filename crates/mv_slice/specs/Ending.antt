-- The end of a slice segment header (7.3.6.1): its entry points and its extension. Over 65,535 entry points, offsets of over 32
-- bits and over 256 bytes of extension break the syntax rule, 52 (this project's profile).
use Rattle.std.specs.Prelude.{ℕ, ◌+◌, ◌||◌, List, Option, nat_lt, refl}
use Rattle.mv_syntax.specs.Table.{Table, ◌>>=◌, ue, named, when, shaped}
use Rattle.mv_syntax.specs.Words.{◌▸◌, ◌>>◌, ◌!◌∶◌, over, is_set, or_zero}
use Rattle.mv_syntax.specs.Loops.{us}
use Rattle.mv_rules.specs.declared.rule.Rule.TheVariants.{SliceSyntax}
use Rattle.mv_slice.specs.Context.{SliceContextValue}

-- the fields in coded order; a loop that is not coded is an empty list
pub record SliceEndingValue : Type 0 where
  pub num_entry_point_offsets : Option ℕ
  pub offset_len_minus1 : Option ℕ
  pub entry_point_offset_minus1 : List ℕ
  pub slice_segment_header_extension_length : Option ℕ
  pub slice_segment_header_extension_data_byte : List ℕ

-- the entry points and the extension
unfoldable pub ending : SliceContextValue → Table SliceEndingValue
ending ctx = shaped
    (λ (num_entry_point_offsets, (offset_len_minus1, (entry_point_offset_minus1, (slice_segment_header_extension_length, slice_segment_header_extension_data_byte)))). record {
      num_entry_point_offsets = num_entry_point_offsets;
      offset_len_minus1 = offset_len_minus1;
      entry_point_offset_minus1 = entry_point_offset_minus1;
      slice_segment_header_extension_length = slice_segment_header_extension_length;
      slice_segment_header_extension_data_byte = slice_segment_header_extension_data_byte;
    })
    (λ v.
    v.num_entry_point_offsets
    ▸ v.offset_len_minus1
    ▸ v.entry_point_offset_minus1
    ▸ v.slice_segment_header_extension_length
    ▸ v.slice_segment_header_extension_data_byte)
    (λ _. refl)
    do
      num_entry_point_offsets ← named "num_entry_point_offsets"
          (when (is_set ctx.tiles_enabled_flag || is_set ctx.entropy_coding_sync_enabled_flag) (ue ! SliceSyntax ∶ over 65535))
      offset_len_minus1 ← named "offset_len_minus1" (when (nat_lt 0 (or_zero num_entry_point_offsets)) (ue ! SliceSyntax ∶ over 31))
      named "entry_point_offset_minus1" (us 0 (or_zero num_entry_point_offsets) (or_zero offset_len_minus1 + 1))
      slice_segment_header_extension_length ← named "slice_segment_header_extension_length"
          (when (is_set ctx.slice_segment_header_extension_present_flag) (ue ! SliceSyntax ∶ over 256))
      named "slice_segment_header_extension_data_byte" (us 0 (or_zero slice_segment_header_extension_length) 8)
