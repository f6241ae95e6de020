-- The last fields of a full slice segment header (7.3.6.1): its quantization and its in-loop filters.
use Rattle.std.specs.Prelude.{Bool, not, ◌&&◌, ◌||◌, refl}
use Rattle.mv_syntax.specs.Table.{Table, ◌>>=◌, u, se, named, when, shaped}
use Rattle.mv_syntax.specs.Words.{◌▸◌, ◌>>◌, is_set, coded_set, ◌otherwise◌}
use Rattle.mv_slice.specs.declared.filters.SliceDeblocking.{SliceDeblocking}
use Rattle.mv_slice.specs.declared.filters.SliceFilters.{SliceFilters}
use Rattle.mv_slice.specs.Context.{SliceContextValue}

-- whether the deblocking filter is off: by the flag of the slice, or else by that of the picture parameter set
abbrev pub is_disabled : SliceContextValue → SliceDeblocking → Bool
is_disabled ctx v = is_set (v.slice_deblocking_filter_disabled_flag otherwise ctx.pps_deblocking_filter_disabled_flag)

-- what is said of the deblocking filter
unfoldable pub deblocking : SliceContextValue → Table SliceDeblocking
deblocking ctx = shaped
    (λ (deblocking_filter_override_flag, (slice_deblocking_filter_disabled_flag, (slice_beta_offset_div2, slice_tc_offset_div2))). record {
      deblocking_filter_override_flag = deblocking_filter_override_flag;
      slice_deblocking_filter_disabled_flag = slice_deblocking_filter_disabled_flag;
      slice_beta_offset_div2 = slice_beta_offset_div2;
      slice_tc_offset_div2 = slice_tc_offset_div2;
    })
    (λ v.
    v.deblocking_filter_override_flag
    ▸ v.slice_deblocking_filter_disabled_flag
    ▸ v.slice_beta_offset_div2
    ▸ v.slice_tc_offset_div2)
    (λ _. refl)
    do
      deblocking_filter_override_flag ← named "deblocking_filter_override_flag" (when (is_set ctx.deblocking_filter_override_enabled_flag) (u 1))
      let override : Bool = coded_set deblocking_filter_override_flag in do
        slice_deblocking_filter_disabled_flag ← named "slice_deblocking_filter_disabled_flag" (when override (u 1))
        let disabled : Bool = is_set (slice_deblocking_filter_disabled_flag otherwise ctx.pps_deblocking_filter_disabled_flag) in do
          named "slice_beta_offset_div2" (when (override && not disabled) se)
          named "slice_tc_offset_div2" (when (override && not disabled) se)

-- from whether one of slice_sao_luma_flag and slice_sao_chroma_flag is 1
unfoldable pub filters : SliceContextValue → Bool → Table SliceFilters
filters ctx sao = shaped
    (λ (slice_qp_delta, (slice_cb_qp_offset, (slice_cr_qp_offset, (deblocking, slice_loop_filter_across_slices_enabled_flag)))). record {
      slice_qp_delta = slice_qp_delta;
      slice_cb_qp_offset = slice_cb_qp_offset;
      slice_cr_qp_offset = slice_cr_qp_offset;
      deblocking = deblocking;
      slice_loop_filter_across_slices_enabled_flag = slice_loop_filter_across_slices_enabled_flag;
    })
    (λ v.
    v.slice_qp_delta
    ▸ v.slice_cb_qp_offset
    ▸ v.slice_cr_qp_offset
    ▸ v.deblocking
    ▸ v.slice_loop_filter_across_slices_enabled_flag)
    (λ _. refl)
    do
      named "slice_qp_delta" se
      named "slice_cb_qp_offset" (when (is_set ctx.pps_slice_chroma_qp_offsets_present_flag) se)
      named "slice_cr_qp_offset" (when (is_set ctx.pps_slice_chroma_qp_offsets_present_flag) se)
      deblocking_fields ← deblocking ctx
      named "slice_loop_filter_across_slices_enabled_flag"
          (when (is_set ctx.pps_loop_filter_across_slices_enabled_flag && (sao || not (is_disabled ctx deblocking_fields))) (u 1))
