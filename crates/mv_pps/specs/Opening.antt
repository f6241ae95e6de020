-- The first fields of a picture parameter set (7.3.2.3.1): its ids, and what slice segment headers hold. An id over 63 or
-- 15 and a number of references over 15 break the limit rule (this project's profile).
use Rattle.std.specs.Prelude.{refl}
use Rattle.mv_syntax.specs.Table.{Table, u, ue, named, shaped}
use Rattle.mv_syntax.specs.Words.{◌▸◌, ◌>>◌, ◌!◌∶◌, over}
use Rattle.mv_rules.specs.declared.rule.Rule.TheVariants.{PpsLimit}
use Rattle.mv_pps.specs.declared.opening.PpsOpening.{PpsOpening}

unfoldable pub opening : Table PpsOpening
opening = shaped
    (λ (pps_pic_parameter_set_id, (pps_seq_parameter_set_id, (dependent_slice_segments_enabled_flag, (output_flag_present_flag, (num_extra_slice_header_bits, (sign_data_hiding_enabled_flag, (cabac_init_present_flag, (num_ref_idx_l0_default_active_minus1, num_ref_idx_l1_default_active_minus1)))))))). record {
      pps_pic_parameter_set_id = pps_pic_parameter_set_id;
      pps_seq_parameter_set_id = pps_seq_parameter_set_id;
      dependent_slice_segments_enabled_flag = dependent_slice_segments_enabled_flag;
      output_flag_present_flag = output_flag_present_flag;
      num_extra_slice_header_bits = num_extra_slice_header_bits;
      sign_data_hiding_enabled_flag = sign_data_hiding_enabled_flag;
      cabac_init_present_flag = cabac_init_present_flag;
      num_ref_idx_l0_default_active_minus1 = num_ref_idx_l0_default_active_minus1;
      num_ref_idx_l1_default_active_minus1 = num_ref_idx_l1_default_active_minus1;
    })
    (λ v.
    v.pps_pic_parameter_set_id
    ▸ v.pps_seq_parameter_set_id
    ▸ v.dependent_slice_segments_enabled_flag
    ▸ v.output_flag_present_flag
    ▸ v.num_extra_slice_header_bits
    ▸ v.sign_data_hiding_enabled_flag
    ▸ v.cabac_init_present_flag
    ▸ v.num_ref_idx_l0_default_active_minus1
    ▸ v.num_ref_idx_l1_default_active_minus1)
    (λ _. refl)
    do
      named "pps_pic_parameter_set_id" (ue ! PpsLimit ∶ over 63)
      named "pps_seq_parameter_set_id" (ue ! PpsLimit ∶ over 15)
      named "dependent_slice_segments_enabled_flag" (u 1)
      named "output_flag_present_flag" (u 1)
      named "num_extra_slice_header_bits" (u 3)
      named "sign_data_hiding_enabled_flag" (u 1)
      named "cabac_init_present_flag" (u 1)
      named "num_ref_idx_l0_default_active_minus1" (ue ! PpsLimit ∶ over 14)
      named "num_ref_idx_l1_default_active_minus1" (ue ! PpsLimit ∶ over 14)
