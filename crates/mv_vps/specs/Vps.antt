-- video_parameter_set_rbsp (7.3.2.1, F.7.3.2.1): the payload, and what is derived from it.
use Rattle.std.specs.Prelude.{◌≡◌, ℕ, Bool, false, not, ◌||◌, List, [], ◌∷◌, Option, Some, None, refl}
use Rattle.mv_syntax.specs.Table.{Table, ◌>>=◌, u, named, when, shaped}
use Rattle.mv_syntax.specs.Words.{◌▸◌, is_set, coded_set}
use Rattle.mv_syntax.specs.Payload.{Payload, ValidPayload}
use Rattle.mv_rules.specs.declared.rule.Rule.TheVariants.{VpsLimit}
use Rattle.mv_vpsext.specs.Args.{VpsArgsValue}
use Rattle.mv_vpsext.specs.VpsExt.{VpsExtValue, vps_extension}
use Rattle.mv_layers.specs.Derived.{DerivedValue}
use Rattle.mv_vpsext.specs.Derived.{derived}
use Rattle.mv_vps.specs.Base.{VpsBaseValue, aligned_base, args_of}

-- the fields in coded order, in parts; a part that is not coded is None
pub record VpsValue : Type 0 where
  pub base : VpsBaseValue
  pub extension : Option VpsExtValue
  pub vps_extension2_flag : Option ℕ

-- there is an extension, and it has a VUI, which is left unread
abbrev pub has_vui : Option VpsExtValue → Bool
has_vui None = false
has_vui (Some ext) = is_set ext.ending.vps_vui_present_flag

-- vps_extension2_flag is coded behind an extension that has no VUI
abbrev pub has_extension2_flag : Option VpsExtValue → Bool
has_extension2_flag None = false
has_extension2_flag (Some ext) = not (is_set ext.ending.vps_vui_present_flag)

-- the fields up to the tail
unfoldable pub vps_fields : Table VpsValue
vps_fields = shaped
    (λ (base, (extension, vps_extension2_flag)). record {
      base = base;
      extension = extension;
      vps_extension2_flag = vps_extension2_flag;
    })
    (λ v.
    v.base
    ▸ v.extension
    ▸ v.vps_extension2_flag)
    (λ _. refl)
    do
      vps_base ← aligned_base
      extension ← when (is_set vps_base.vps_extension_flag) (vps_extension (args_of vps_base))
      named "vps_extension2_flag" (when (has_extension2_flag extension) (u 1))

-- a tail stands behind the fields where there is a VUI or vps_extension2_flag is 1
abbrev pub has_tail : VpsValue → Bool
has_tail v = has_vui v.extension || coded_set v.vps_extension2_flag

-- the payload: at most 65,536 bytes, or else the limit rule (this project's profile); the fields, the tail (the VUI, or
-- vps_extension_data_flag) and the trailing bits
abbrev pub vps : Payload VpsValue
vps = record { fields = vps_fields; size_rule = VpsLimit; has_tail = has_tail }

-- without an extension there is layer 0 alone, and one output layer set, which has it as its output
abbrev pub layer_0_alone : DerivedValue
layer_0_alone = record {
  layers = record { layer = 0; view_order = 0; view_id = 0; directs = []; closure = 0 ∷ [] } ∷ [];
  sets = record { layers = 0 ∷ []; outputs = 0 ∷ []; necessary = 0 ∷ []; reorder = None } ∷ [];
}

-- the layers and output layer sets that a video parameter set describes (F.7.4.3.1.1)
abbrev pub described : VpsArgsValue → Option VpsExtValue → DerivedValue
described args None = layer_0_alone
described args (Some ext) = derived args ext

-- a video parameter set: what is coded, its fields and the tail, and what is derived
pub record WholeVps : Type 0 where
  pub coded : VpsValue × Option (List Bool)
  pub derived : DerivedValue

-- it is valid: what is coded is a payload, and what is derived follows from the fields
pub record ValidVps (v : WholeVps) : Type 0 where
  pub payload : ValidPayload vps v.coded
  pub derived : v.derived ≡ described (args_of v.coded.0.base) v.coded.0.extension
