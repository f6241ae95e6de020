-- The usability information of a sequence parameter set (7.3.2.2.1).
use Rattle.std.specs.Prelude.{ℕ, Option, refl}
use Rattle.mv_syntax.specs.Table.{Table, ◌>>=◌, u, named, when, shaped}
use Rattle.mv_syntax.specs.Words.{◌under◌, ◌▸◌, is_set}
use Rattle.mv_rules.specs.declared.rule.Rule.TheVariants.{SpsLimit}
use Rattle.mv_common.specs.Vui.{VuiValue, vui_parameters}

pub record SpsVuiValue : Type 0 where
  pub vui_parameters_present_flag : ℕ
  pub vui_parameters : Option VuiValue

unfoldable pub usability : ℕ → Table SpsVuiValue
usability subs = shaped
    (λ (vui_parameters_present_flag, vui_parameters). record {
      vui_parameters_present_flag = vui_parameters_present_flag;
      vui_parameters = vui_parameters;
    })
    (λ v.
    v.vui_parameters_present_flag
    ▸ v.vui_parameters)
    (λ _. refl)
    do
      vui_parameters_present_flag ← named "vui_parameters_present_flag" (u 1)
      when (is_set vui_parameters_present_flag) (vui_parameters subs under SpsLimit)
