-- The head and the slice segment header of each picture: pictures whose low bits are 0 are IDR pictures, all others trail them.
use Rattle.std.specs.Prelude.{ℕ, ◌+◌, ◌*◌, ◌/◌, Bool, not, ◌&&◌, List, [], ◌∷◌, length, map, slice_range, pos, Some, None, nat_eq, if◌then◌else◌}
use Rattle.std.specs.List.{range_with_len}
use Rattle.mv_syntax.specs.Bits.{bit}
use Rattle.mv_syntax.specs.Table.{bits_of}
use Rattle.mv_units.specs.declared.head.UnitHead.{UnitHead}
use Rattle.mv_short_sets.specs.ShortSetValue.{ShortSetValue}
use Rattle.mv_slice.specs.Slice.{slice_header}
use Rattle.mv_slice.specs.declared.lists.SliceLists.{SliceLists}
use Rattle.mv_slice.specs.declared.picture.SliceReferences.{SliceReferences}
use Rattle.mv_slice.specs.declared.slice.SliceFull.{SliceFull}
use Rattle.mv_slice.specs.declared.slice.SliceHead.{SliceHead}
use Rattle.mv_gen.specs.Contexts.{context}

-- an IDR picture, by the low bits of its picture order count
abbrev pub is_first : ℕ → Bool
is_first lsb = nat_eq lsb 0

-- nal_unit_type 19 is IDR_W_RADL, and 1 is TRAIL_R
unfoldable pub head_of : ℕ → ℕ → UnitHead
head_of layer lsb = record { kind = if is_first lsb then 19 else 1; layer = layer; tid = 0 }

-- a picture of layer 0 that is an IDR picture refers to none, and is of I slices; each other is of P slices
abbrev pub is_intra : ℕ → ℕ → Bool
is_intra layer lsb = nat_eq layer 0 && is_first lsb

-- the view's picture before it, which it uses
abbrev pub set_of_one : ShortSetValue
set_of_one = record {
  inter_ref_pic_set_prediction_flag = None;
  delta_idx_minus1 = None;
  delta_rps_sign = None;
  abs_delta_rps_minus1 = None;
  used_by_curr_pic_flag = [];
  use_delta_flag = [];
  num_negative_pics = Some 1;
  num_positive_pics = Some 0;
  delta_poc_s0_minus1 = 0 ∷ [];
  used_by_curr_pic_s0_flag = 1 ∷ [];
  delta_poc_s1_minus1 = [];
  used_by_curr_pic_s1_flag = [];
}

abbrev pub references : SliceReferences
references = record {
  short_term_ref_pic_set_sps_flag = 0;
  st_ref_pic_set = Some set_of_one;
  short_term_ref_pic_set_idx = None;
  long_terms = None;
  slice_temporal_mvp_enabled_flag = None;
}

-- a picture of layer 1 that is no IDR picture has two reference pictures in its list, and asks for both
abbrev pub lists : Bool → SliceLists
lists two = record {
  num_ref_idx_active_override_flag = if two then 1 else 0;
  num_ref_idx_l0_active_minus1 = if two then Some 1 else None;
  num_ref_idx_l1_active_minus1 = None;
  modification = record {
    ref_pic_list_modification_flag_l0 = None;
    list_entry_l0 = None;
    ref_pic_list_modification_flag_l1 = None;
    list_entry_l1 = None;
  };
  mvd_l1_zero_flag = None;
  cabac_init_flag = None;
  collocated_from_l0_flag = None;
  collocated_ref_idx = None;
  pred_weight_table = None;
  five_minus_max_num_merge_cand = 0;
}

-- the low bits are coded but for an IDR picture of layer 0
abbrev pub full : ℕ → ℕ → SliceFull
full layer lsb = record {
  picture = record {
    discardable_flag = None;
    cross_layer_bla_flag = None;
    slice_reserved_flag = [];
    slice_type = if is_intra layer lsb then 2 else 1;
    pic_output_flag = None;
    slice_pic_order_cnt_lsb = if is_intra layer lsb then None else Some lsb;
    references = if is_first lsb then None else Some references;
  };
  inter_layer = record {
    inter_layer_pred_enabled_flag = None;
    num_inter_layer_ref_pics_minus1 = None;
    inter_layer_pred_layer_idc = None;
  };
  prediction = record {
    slice_sao_luma_flag = None;
    slice_sao_chroma_flag = None;
    lists = if is_intra layer lsb then None else Some (lists (nat_eq layer 1 && not (is_first lsb)));
  };
  filters = record {
    slice_qp_delta = pos 0;
    slice_cb_qp_offset = None;
    slice_cr_qp_offset = None;
    deblocking = record {
      deblocking_filter_override_flag = None;
      slice_deblocking_filter_disabled_flag = None;
      slice_beta_offset_div2 = None;
      slice_tc_offset_div2 = None;
    };
    slice_loop_filter_across_slices_enabled_flag = None;
  };
}

-- the fields: the picture's one segment; each view has the picture parameter set of its number
unfoldable pub slice_head : ℕ → ℕ → SliceHead
slice_head layer lsb = record {
  opening = record {
    first_slice_segment_in_pic_flag = 1;
    no_output_of_prior_pics_flag = if is_first lsb then Some 0 else None;
    slice_pic_parameter_set_id = layer;
  };
  address = record { dependent_slice_segment_flag = None; slice_segment_address = None };
  full = Some (full layer lsb);
  ending = record {
    num_entry_point_offsets = None;
    offset_len_minus1 = None;
    entry_point_offset_minus1 = [];
    slice_segment_header_extension_length = None;
    slice_segment_header_extension_data_byte = [];
  };
}

-- the number whose bits these are, the most significant first
abbrev pub number_of : ℕ → List Bool → ℕ
number_of high [] = high
number_of high (x ∷ b) = number_of (2 * high + bit x) b

-- the bytes of bits, eight a byte
unfoldable pub bytes_of : List Bool → List ℕ
bytes_of b = map (λ i. number_of 0 (slice_range b (8 * i) (8 * i + 8))) (range_with_len 0 (length b / 8))

-- the header, in bytes
unfoldable pub header_of : ℕ → ℕ → List ℕ
header_of layer lsb = bytes_of (bits_of (slice_header (context layer) (head_of layer lsb).kind) (slice_head layer lsb))
