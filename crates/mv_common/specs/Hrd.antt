-- hrd_parameters (E.2.2) and sub_layer_hrd_parameters (E.2.3).
use Rattle.std.specs.Prelude.{ℕ, ◌+◌, Bool, not, ◌||◌, List, Option, Some, None, refl}
use Rattle.mv_syntax.specs.Table.{Table, ◌>>=◌, u, ue, named, when, shaped}
use Rattle.mv_syntax.specs.Words.{◌▸◌, ◌>>◌, ◌unless◌, over, is_set, ◌otherwise◌, or_zero, coded_set}
use Rattle.mv_syntax.specs.Loops.{items}
use Rattle.mv_common.specs.declared.hrd_common.HrdCommon.{HrdCommon}
use Rattle.mv_common.specs.declared.hrd_common.HrdFlags.{HrdFlags}
use Rattle.mv_common.specs.declared.cpb.Cpb.{Cpb}
use Rattle.mv_common.specs.declared.hrd.HrdArgs.{HrdArgs}

-- the first group, which a header may leave out for a later hrd_parameters
unfoldable pub hrd_common : Table HrdCommon
hrd_common = shaped
    (λ (nal_hrd_parameters_present_flag, (vcl_hrd_parameters_present_flag, (sub_pic_hrd_params_present_flag, (tick_divisor_minus2, (du_cpb_removal_delay_increment_length_minus1, (sub_pic_cpb_params_in_pic_timing_sei_flag, (dpb_output_delay_du_length_minus1, (bit_rate_scale, (cpb_size_scale, (cpb_size_du_scale, (initial_cpb_removal_delay_length_minus1, (au_cpb_removal_delay_length_minus1, dpb_output_delay_length_minus1)))))))))))). record {
      nal_hrd_parameters_present_flag = nal_hrd_parameters_present_flag;
      vcl_hrd_parameters_present_flag = vcl_hrd_parameters_present_flag;
      sub_pic_hrd_params_present_flag = sub_pic_hrd_params_present_flag;
      tick_divisor_minus2 = tick_divisor_minus2;
      du_cpb_removal_delay_increment_length_minus1 = du_cpb_removal_delay_increment_length_minus1;
      sub_pic_cpb_params_in_pic_timing_sei_flag = sub_pic_cpb_params_in_pic_timing_sei_flag;
      dpb_output_delay_du_length_minus1 = dpb_output_delay_du_length_minus1;
      bit_rate_scale = bit_rate_scale;
      cpb_size_scale = cpb_size_scale;
      cpb_size_du_scale = cpb_size_du_scale;
      initial_cpb_removal_delay_length_minus1 = initial_cpb_removal_delay_length_minus1;
      au_cpb_removal_delay_length_minus1 = au_cpb_removal_delay_length_minus1;
      dpb_output_delay_length_minus1 = dpb_output_delay_length_minus1;
    })
    (λ v.
    v.nal_hrd_parameters_present_flag
    ▸ v.vcl_hrd_parameters_present_flag
    ▸ v.sub_pic_hrd_params_present_flag
    ▸ v.tick_divisor_minus2
    ▸ v.du_cpb_removal_delay_increment_length_minus1
    ▸ v.sub_pic_cpb_params_in_pic_timing_sei_flag
    ▸ v.dpb_output_delay_du_length_minus1
    ▸ v.bit_rate_scale
    ▸ v.cpb_size_scale
    ▸ v.cpb_size_du_scale
    ▸ v.initial_cpb_removal_delay_length_minus1
    ▸ v.au_cpb_removal_delay_length_minus1
    ▸ v.dpb_output_delay_length_minus1)
    (λ _. refl)
    do
      nal_hrd_parameters_present_flag ← named "nal_hrd_parameters_present_flag" (u 1)
      vcl_hrd_parameters_present_flag ← named "vcl_hrd_parameters_present_flag" (u 1)
      let any : Bool = is_set nal_hrd_parameters_present_flag || is_set vcl_hrd_parameters_present_flag in do
        sub_pic_hrd_params_present_flag ← named "sub_pic_hrd_params_present_flag" (when any (u 1))
        let sub_pic : Bool = coded_set sub_pic_hrd_params_present_flag in do
          named "tick_divisor_minus2" (when sub_pic (u 8))
          named "du_cpb_removal_delay_increment_length_minus1" (when sub_pic (u 5))
          named "sub_pic_cpb_params_in_pic_timing_sei_flag" (when sub_pic (u 1))
          named "dpb_output_delay_du_length_minus1" (when sub_pic (u 5))
          named "bit_rate_scale" (when any (u 4))
          named "cpb_size_scale" (when any (u 4))
          named "cpb_size_du_scale" (when sub_pic (u 4))
          named "initial_cpb_removal_delay_length_minus1" (when any (u 5))
          named "au_cpb_removal_delay_length_minus1" (when any (u 5))
          named "dpb_output_delay_length_minus1" (when any (u 5))

-- turn k of sub_layer_hrd_parameters (E.2.3)
unfoldable pub cpb : Bool → ℕ → Table Cpb
cpb sub_pic k = shaped
    (λ (bit_rate_value_minus1, (cpb_size_value_minus1, (cpb_size_du_value_minus1, (bit_rate_du_value_minus1, cbr_flag)))). record {
      bit_rate_value_minus1 = bit_rate_value_minus1;
      cpb_size_value_minus1 = cpb_size_value_minus1;
      cpb_size_du_value_minus1 = cpb_size_du_value_minus1;
      bit_rate_du_value_minus1 = bit_rate_du_value_minus1;
      cbr_flag = cbr_flag;
    })
    (λ v.
    v.bit_rate_value_minus1
    ▸ v.cpb_size_value_minus1
    ▸ v.cpb_size_du_value_minus1
    ▸ v.bit_rate_du_value_minus1
    ▸ v.cbr_flag)
    (λ _. refl)
    do
      named "bit_rate_value_minus1" ue
      named "cpb_size_value_minus1" ue
      named "cpb_size_du_value_minus1" (when sub_pic ue)
      named "bit_rate_du_value_minus1" (when sub_pic ue)
      named "cbr_flag" (u 1)

-- sub_layer_hrd_parameters: for k = 0 to cpb_cnt_minus1
unfoldable pub sub_layer_hrd : Bool → ℕ → Table (List Cpb)
sub_layer_hrd sub_pic cpb_cnt_minus1 = items 0 (cpb_cnt_minus1 + 1) (cpb sub_pic)

pub record HrdSubLayerValue : Type 0 where
  pub fixed_pic_rate_general_flag : ℕ
  pub fixed_pic_rate_within_cvs_flag : Option ℕ
  pub elemental_duration_in_tc_minus1 : Option ℕ
  pub low_delay_hrd_flag : Option ℕ
  pub cpb_cnt_minus1 : Option ℕ
  pub nal_sub_layer_hrd : Option (List Cpb)
  pub vcl_sub_layer_hrd : Option (List Cpb)

-- the fields of sub-layer i, by the flags in force. fixed_pic_rate_within_cvs_flag is 1 where it is left out
unfoldable pub hrd_sub_layer : HrdFlags → ℕ → Table HrdSubLayerValue
hrd_sub_layer flags i = shaped
    (λ (fixed_pic_rate_general_flag, (fixed_pic_rate_within_cvs_flag, (elemental_duration_in_tc_minus1, (low_delay_hrd_flag, (cpb_cnt_minus1, (nal_sub_layer_hrd, vcl_sub_layer_hrd)))))). record {
      fixed_pic_rate_general_flag = fixed_pic_rate_general_flag;
      fixed_pic_rate_within_cvs_flag = fixed_pic_rate_within_cvs_flag;
      elemental_duration_in_tc_minus1 = elemental_duration_in_tc_minus1;
      low_delay_hrd_flag = low_delay_hrd_flag;
      cpb_cnt_minus1 = cpb_cnt_minus1;
      nal_sub_layer_hrd = nal_sub_layer_hrd;
      vcl_sub_layer_hrd = vcl_sub_layer_hrd;
    })
    (λ v.
    v.fixed_pic_rate_general_flag
    ▸ v.fixed_pic_rate_within_cvs_flag
    ▸ v.elemental_duration_in_tc_minus1
    ▸ v.low_delay_hrd_flag
    ▸ v.cpb_cnt_minus1
    ▸ v.nal_sub_layer_hrd
    ▸ v.vcl_sub_layer_hrd)
    (λ _. refl)
    do
      fixed_pic_rate_general_flag ← named "fixed_pic_rate_general_flag" (u 1)
      fixed_pic_rate_within_cvs_flag ← named "fixed_pic_rate_within_cvs_flag" (when (not (is_set fixed_pic_rate_general_flag)) (u 1))
      let within_cvs : Bool = is_set (fixed_pic_rate_within_cvs_flag otherwise 1) in do
        named "elemental_duration_in_tc_minus1" (when within_cvs ue)
        low_delay_hrd_flag ← named "low_delay_hrd_flag" (when (not within_cvs) (u 1))
        cpb_cnt_minus1 ← named "cpb_cnt_minus1" (when (not (coded_set low_delay_hrd_flag)) (ue unless over 31))
        when flags.nal (sub_layer_hrd flags.sub_pic (or_zero cpb_cnt_minus1))
        when flags.vcl (sub_layer_hrd flags.sub_pic (or_zero cpb_cnt_minus1))

-- for i = 0 to subs
unfoldable pub hrd_sub_layers : ℕ → HrdFlags → Table (List HrdSubLayerValue)
hrd_sub_layers subs flags = items 0 (subs + 1) (hrd_sub_layer flags)

-- the flags in force: those of the first group where it is coded, and else those in force before
abbrev pub in_force : Option HrdCommon → HrdFlags → HrdFlags
in_force (Some common) before = record {
  nal = is_set common.nal_hrd_parameters_present_flag;
  vcl = is_set common.vcl_hrd_parameters_present_flag;
  sub_pic = coded_set common.sub_pic_hrd_params_present_flag;
}
in_force None before = before

abbrev pub flags_before : HrdArgs → HrdFlags
flags_before args = record { nal = args.nal; vcl = args.vcl; sub_pic = args.sub_pic }

pub record HrdValue : Type 0 where
  pub common : Option HrdCommon
  pub sub_layers : List HrdSubLayerValue

-- hrd_parameters(common, subs), with the flags in force at the hrd_parameters before
unfoldable pub hrd_parameters : Bool → ℕ → HrdFlags → Table HrdValue
hrd_parameters common subs before = shaped
    (λ c. record { common = c.0; sub_layers = c.1 })
    (λ v. v.common ▸ v.sub_layers)
    (λ _. refl)
    do
      first ← when common hrd_common
      hrd_sub_layers subs (in_force first before)
