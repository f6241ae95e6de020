-- The timing of a video parameter set and its hrd_parameters (7.3.2.1). Over 1,024 hrd_parameters break the limit rule (this
-- project's profile).
use Rattle.std.specs.Prelude.{ℕ, false, List, Option, refl}
use Rattle.std.specs.List.{fold}
use Rattle.mv_syntax.specs.Table.{Table, ◌>>=◌, u, ue, named, when, shaped}
use Rattle.mv_syntax.specs.Words.{◌under◌, ◌▸◌, ◌>>◌, ◌!◌∶◌, over, is_set, ◌otherwise◌}
use Rattle.mv_syntax.specs.Loops.{items_after}
use Rattle.mv_rules.specs.declared.rule.Rule.TheVariants.{VpsLimit}
use Rattle.mv_common.specs.declared.hrd_common.HrdFlags.{HrdFlags}
use Rattle.mv_common.specs.Hrd.{HrdValue, hrd_parameters, in_force}

-- the hrd_parameters of a layer set
pub record VpsHrdValue : Type 0 where
  pub hrd_layer_set_idx : ℕ
  pub cprms_present_flag : Option ℕ
  pub hrd_parameters : HrdValue

-- hrd_parameters i, where these flags of the first group are in force before it. cprms_present_flag is 1 where it is left out
unfoldable pub vps_hrd : ℕ → HrdFlags → ℕ → Table VpsHrdValue
vps_hrd vps_max_sub_layers_minus1 before i = shaped
    (λ (hrd_layer_set_idx, (cprms_present_flag, hrd_parameters)). record {
      hrd_layer_set_idx = hrd_layer_set_idx;
      cprms_present_flag = cprms_present_flag;
      hrd_parameters = hrd_parameters;
    })
    (λ v.
    v.hrd_layer_set_idx
    ▸ v.cprms_present_flag
    ▸ v.hrd_parameters)
    (λ _. refl)
    do
      named "hrd_layer_set_idx" ue
      cprms_present_flag ← named "cprms_present_flag" (when (over 0 i) (u 1))
      hrd_parameters (is_set (cprms_present_flag otherwise 1)) vps_max_sub_layers_minus1 before under VpsLimit

-- no first group was coded yet
abbrev pub no_flags : HrdFlags
no_flags = record { nal = false; vcl = false; sub_pic = false }

-- the flags in force behind some hrd_parameters: those of the last first group that was coded
abbrev pub flags_behind : List VpsHrdValue → HrdFlags
flags_behind earlier = fold (λ flags (hrd : VpsHrdValue). in_force hrd.hrd_parameters.common flags) no_flags earlier

-- hrd_parameters i behind those before it, from which it takes the first group where it has none of its own
unfoldable pub next_hrd : ℕ → ℕ → List VpsHrdValue → Table VpsHrdValue
next_hrd vps_max_sub_layers_minus1 i earlier = vps_hrd vps_max_sub_layers_minus1 (flags_behind earlier) i

-- for i = 0 to vps_num_hrd_parameters-1
unfoldable pub vps_hrds : ℕ → ℕ → Table (List VpsHrdValue)
vps_hrds vps_max_sub_layers_minus1 vps_num_hrd_parameters = items_after 0 vps_num_hrd_parameters (next_hrd vps_max_sub_layers_minus1)

-- coded where vps_timing_info_present_flag is 1
pub record VpsTimingValue : Type 0 where
  pub vps_num_units_in_tick : ℕ
  pub vps_time_scale : ℕ
  pub vps_poc_proportional_to_timing_flag : ℕ
  pub vps_num_ticks_poc_diff_one_minus1 : Option ℕ
  pub vps_num_hrd_parameters : ℕ
  pub hrds : List VpsHrdValue

unfoldable pub timing : ℕ → Table VpsTimingValue
timing vps_max_sub_layers_minus1 = shaped
    (λ (vps_num_units_in_tick, (vps_time_scale, (vps_poc_proportional_to_timing_flag, (vps_num_ticks_poc_diff_one_minus1, (vps_num_hrd_parameters, hrds))))). record {
      vps_num_units_in_tick = vps_num_units_in_tick;
      vps_time_scale = vps_time_scale;
      vps_poc_proportional_to_timing_flag = vps_poc_proportional_to_timing_flag;
      vps_num_ticks_poc_diff_one_minus1 = vps_num_ticks_poc_diff_one_minus1;
      vps_num_hrd_parameters = vps_num_hrd_parameters;
      hrds = hrds;
    })
    (λ v.
    v.vps_num_units_in_tick
    ▸ v.vps_time_scale
    ▸ v.vps_poc_proportional_to_timing_flag
    ▸ v.vps_num_ticks_poc_diff_one_minus1
    ▸ v.vps_num_hrd_parameters
    ▸ v.hrds)
    (λ _. refl)
    do
      named "vps_num_units_in_tick" (u 32)
      named "vps_time_scale" (u 32)
      vps_poc_proportional_to_timing_flag ← named "vps_poc_proportional_to_timing_flag" (u 1)
      named "vps_num_ticks_poc_diff_one_minus1" (when (is_set vps_poc_proportional_to_timing_flag) ue)
      vps_num_hrd_parameters ← named "vps_num_hrd_parameters" (ue ! VpsLimit ∶ over 1024)
      vps_hrds vps_max_sub_layers_minus1 vps_num_hrd_parameters
