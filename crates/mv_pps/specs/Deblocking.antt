-- The deblocking filter in a picture parameter set (7.3.2.3.1).
use Rattle.std.specs.Prelude.{Bool, not, ◌&&◌, refl}
use Rattle.mv_syntax.specs.Table.{Table, ◌>>=◌, u, se, named, when, shaped}
use Rattle.mv_syntax.specs.Words.{◌▸◌, ◌>>◌, is_set, coded_set}
use Rattle.mv_pps.specs.declared.deblocking.PpsDeblocking.{PpsDeblocking}

unfoldable pub deblocking : Table PpsDeblocking
deblocking = shaped
    (λ (deblocking_filter_control_present_flag, (deblocking_filter_override_enabled_flag, (pps_deblocking_filter_disabled_flag, (pps_beta_offset_div2, pps_tc_offset_div2)))). record {
      deblocking_filter_control_present_flag = deblocking_filter_control_present_flag;
      deblocking_filter_override_enabled_flag = deblocking_filter_override_enabled_flag;
      pps_deblocking_filter_disabled_flag = pps_deblocking_filter_disabled_flag;
      pps_beta_offset_div2 = pps_beta_offset_div2;
      pps_tc_offset_div2 = pps_tc_offset_div2;
    })
    (λ v.
    v.deblocking_filter_control_present_flag
    ▸ v.deblocking_filter_override_enabled_flag
    ▸ v.pps_deblocking_filter_disabled_flag
    ▸ v.pps_beta_offset_div2
    ▸ v.pps_tc_offset_div2)
    (λ _. refl)
    do
      deblocking_filter_control_present_flag ← named "deblocking_filter_control_present_flag" (u 1)
      let control : Bool = is_set deblocking_filter_control_present_flag in do
        named "deblocking_filter_override_enabled_flag" (when control (u 1))
        pps_deblocking_filter_disabled_flag ← named "pps_deblocking_filter_disabled_flag" (when control (u 1))
        let offsets : Bool = control && not (coded_set pps_deblocking_filter_disabled_flag) in do
          named "pps_beta_offset_div2" (when offsets se)
          named "pps_tc_offset_div2" (when offsets se)
