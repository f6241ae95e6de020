-- vps_extension (F.7.3.2.1.1), last part, up to vps_vui_present_flag: the bytes of other extensions, and whether a VUI follows.
use Rattle.std.specs.Prelude.{ℕ, List, refl}
use Rattle.mv_syntax.specs.Table.{Table, ◌>>=◌, u, ue, named, shaped}
use Rattle.mv_syntax.specs.Words.{◌▸◌, ◌>>◌, ◌!◌∶◌, over}
use Rattle.mv_syntax.specs.Loops.{us}
use Rattle.mv_rules.specs.declared.rule.Rule.TheVariants.{VpsLimit}

pub record VpsExtEndingValue : Type 0 where
  pub vps_non_vui_extension_length : ℕ
  pub vps_non_vui_extension_data_byte : List ℕ
  pub vps_vui_present_flag : ℕ

-- for i = 1 to vps_non_vui_extension_length
unfoldable pub ext_ending : Table VpsExtEndingValue
ext_ending = shaped
    (λ (vps_non_vui_extension_length, (vps_non_vui_extension_data_byte, vps_vui_present_flag)). record {
      vps_non_vui_extension_length = vps_non_vui_extension_length;
      vps_non_vui_extension_data_byte = vps_non_vui_extension_data_byte;
      vps_vui_present_flag = vps_vui_present_flag;
    })
    (λ v.
    v.vps_non_vui_extension_length
    ▸ v.vps_non_vui_extension_data_byte
    ▸ v.vps_vui_present_flag)
    (λ _. refl)
    do
      vps_non_vui_extension_length ← named "vps_non_vui_extension_length" (ue ! VpsLimit ∶ over 4096)
      named "vps_non_vui_extension_data_byte" (us 1 vps_non_vui_extension_length 8)
      named "vps_vui_present_flag" (u 1)
