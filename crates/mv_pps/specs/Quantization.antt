-- The fields of a picture parameter set on residuals and their quantization (7.3.2.3.1).
use Rattle.std.specs.Prelude.{refl}
use Rattle.mv_syntax.specs.Table.{Table, ◌>>=◌, u, ue, se, named, when, shaped}
use Rattle.mv_syntax.specs.Words.{◌▸◌, ◌>>◌, is_set}
use Rattle.mv_pps.specs.declared.quantization.PpsQuantization.{PpsQuantization}

unfoldable pub quantization : Table PpsQuantization
quantization = shaped
    (λ (init_qp_minus26, (constrained_intra_pred_flag, (transform_skip_enabled_flag, (cu_qp_delta_enabled_flag, (diff_cu_qp_delta_depth, (pps_cb_qp_offset, (pps_cr_qp_offset, pps_slice_chroma_qp_offsets_present_flag))))))). record {
      init_qp_minus26 = init_qp_minus26;
      constrained_intra_pred_flag = constrained_intra_pred_flag;
      transform_skip_enabled_flag = transform_skip_enabled_flag;
      cu_qp_delta_enabled_flag = cu_qp_delta_enabled_flag;
      diff_cu_qp_delta_depth = diff_cu_qp_delta_depth;
      pps_cb_qp_offset = pps_cb_qp_offset;
      pps_cr_qp_offset = pps_cr_qp_offset;
      pps_slice_chroma_qp_offsets_present_flag = pps_slice_chroma_qp_offsets_present_flag;
    })
    (λ v.
    v.init_qp_minus26
    ▸ v.constrained_intra_pred_flag
    ▸ v.transform_skip_enabled_flag
    ▸ v.cu_qp_delta_enabled_flag
    ▸ v.diff_cu_qp_delta_depth
    ▸ v.pps_cb_qp_offset
    ▸ v.pps_cr_qp_offset
    ▸ v.pps_slice_chroma_qp_offsets_present_flag)
    (λ _. refl)
    do
      named "init_qp_minus26" se
      named "constrained_intra_pred_flag" (u 1)
      named "transform_skip_enabled_flag" (u 1)
      cu_qp_delta_enabled_flag ← named "cu_qp_delta_enabled_flag" (u 1)
      named "diff_cu_qp_delta_depth" (when (is_set cu_qp_delta_enabled_flag) ue)
      named "pps_cb_qp_offset" se
      named "pps_cr_qp_offset" se
      named "pps_slice_chroma_qp_offsets_present_flag" (u 1)
