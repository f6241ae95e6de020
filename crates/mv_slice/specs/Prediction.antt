-- What a full slice segment header says of its sample adaptive offset and of its reference picture lists (7.3.6.1). Over 15
-- active entries break the syntax rule, 52 (this project's profile).
use Rattle.std.specs.Prelude.{ℕ, ◌+◌, Bool, ◌&&◌, ◌||◌, List, Option, nat_lt, nat_eq, refl, if◌then◌else◌}
use Rattle.mv_syntax.specs.Table.{Table, ◌>>=◌, u, ue, named, when, shaped}
use Rattle.mv_syntax.specs.Words.{◌▸◌, ◌>>◌, ◌!◌∶◌, over, is_set, ◌otherwise◌}
use Rattle.mv_rules.specs.declared.rule.Rule.TheVariants.{SliceSyntax}
use Rattle.mv_slice.specs.declared.lists.SliceLists.{SliceLists}
use Rattle.mv_slice.specs.declared.prediction.SlicePrediction.{SlicePrediction}
use Rattle.mv_slice.specs.Context.{SliceContextValue}
use Rattle.mv_slice.specs.Numbers.{is_b, is_p}
use Rattle.mv_slice.specs.ListModification.{list_modification}
use Rattle.mv_slice.specs.Weights.{PredWeightTableValue, pred_weight_table}

-- the number of active entries of a list: the coded one, or else that of the picture parameter set
abbrev pub num_entries : Option ℕ → ℕ → ℕ
num_entries coded_minus1 default_minus1 = (coded_minus1 otherwise default_minus1) + 1

-- whether a slice has weights: by the flag for P, or by that for B
abbrev pub has_weights : SliceContextValue → ℕ → Bool
has_weights ctx slice_type = (is_p slice_type && is_set ctx.weighted_pred_flag) || (is_b slice_type && is_set ctx.weighted_bipred_flag)

-- the fields of a P or B slice, from NumPicTotalCurr and from whether slice_temporal_mvp_enabled_flag is 1
unfoldable pub lists : SliceContextValue → ℕ → ℕ → Bool → Table SliceLists
lists ctx slice_type num_pic_total_curr temporal_mvp = shaped
    (λ (num_ref_idx_active_override_flag, (num_ref_idx_l0_active_minus1, (num_ref_idx_l1_active_minus1, (modification, (mvd_l1_zero_flag, (cabac_init_flag, (collocated_from_l0_flag, (collocated_ref_idx, (pred_weight_table, five_minus_max_num_merge_cand))))))))). record {
      num_ref_idx_active_override_flag = num_ref_idx_active_override_flag;
      num_ref_idx_l0_active_minus1 = num_ref_idx_l0_active_minus1;
      num_ref_idx_l1_active_minus1 = num_ref_idx_l1_active_minus1;
      modification = modification;
      mvd_l1_zero_flag = mvd_l1_zero_flag;
      cabac_init_flag = cabac_init_flag;
      collocated_from_l0_flag = collocated_from_l0_flag;
      collocated_ref_idx = collocated_ref_idx;
      pred_weight_table = pred_weight_table;
      five_minus_max_num_merge_cand = five_minus_max_num_merge_cand;
    })
    (λ v.
    v.num_ref_idx_active_override_flag
    ▸ v.num_ref_idx_l0_active_minus1
    ▸ v.num_ref_idx_l1_active_minus1
    ▸ v.modification
    ▸ v.mvd_l1_zero_flag
    ▸ v.cabac_init_flag
    ▸ v.collocated_from_l0_flag
    ▸ v.collocated_ref_idx
    ▸ v.pred_weight_table
    ▸ v.five_minus_max_num_merge_cand)
    (λ _. refl)
    do
      num_ref_idx_active_override_flag ← named "num_ref_idx_active_override_flag" (u 1)
      num_ref_idx_l0_active_minus1 ← named "num_ref_idx_l0_active_minus1" (when (is_set num_ref_idx_active_override_flag) (ue ! SliceSyntax ∶ over 14))
      num_ref_idx_l1_active_minus1 ← named "num_ref_idx_l1_active_minus1"
          (when (is_set num_ref_idx_active_override_flag && is_b slice_type) (ue ! SliceSyntax ∶ over 14))
      let active_l0 : ℕ = num_entries num_ref_idx_l0_active_minus1 ctx.num_ref_idx_l0_default_active_minus1 in
          let active_l1 : ℕ = num_entries num_ref_idx_l1_active_minus1 ctx.num_ref_idx_l1_default_active_minus1 in do
            list_modification (is_set ctx.lists_modification_present_flag && nat_lt 1 num_pic_total_curr) (is_b slice_type) num_pic_total_curr active_l0 active_l1
            named "mvd_l1_zero_flag" (when (is_b slice_type) (u 1))
            named "cabac_init_flag" (when (is_set ctx.cabac_init_present_flag) (u 1))
            collocated_from_l0_flag ← named "collocated_from_l0_flag" (when (temporal_mvp && is_b slice_type) (u 1))
            named "collocated_ref_idx"
                (when (temporal_mvp && nat_lt 1 (if is_set (collocated_from_l0_flag otherwise 1) then active_l0 else active_l1)) ue)
            when (has_weights ctx slice_type) (pred_weight_table ctx.chroma (is_b slice_type) active_l0 active_l1)
            named "five_minus_max_num_merge_cand" ue

-- the flags of sample adaptive offset, and for P and B slices the fields of their lists
unfoldable pub prediction : SliceContextValue → ℕ → ℕ → Bool → Table SlicePrediction
prediction ctx slice_type num_pic_total_curr temporal_mvp = shaped
    (λ (slice_sao_luma_flag, (slice_sao_chroma_flag, lists)). record {
      slice_sao_luma_flag = slice_sao_luma_flag;
      slice_sao_chroma_flag = slice_sao_chroma_flag;
      lists = lists;
    })
    (λ v.
    v.slice_sao_luma_flag
    ▸ v.slice_sao_chroma_flag
    ▸ v.lists)
    (λ _. refl)
    do
      named "slice_sao_luma_flag" (when (is_set ctx.sample_adaptive_offset_enabled_flag) (u 1))
      named "slice_sao_chroma_flag" (when (is_set ctx.sample_adaptive_offset_enabled_flag && ctx.chroma) (u 1))
      when (is_p slice_type || is_b slice_type) (lists ctx slice_type num_pic_total_curr temporal_mvp)
