-- seq_parameter_set_rbsp (7.3.2.2.1, F.7.3.2.2.1), part by part: each part is a run of its lines.
use Rattle.std.specs.Prelude.{ℕ, ◌+◌, Bool, refl}
use Rattle.mv_syntax.specs.Table.{Table, ◌>>=◌, shaped}
use Rattle.mv_syntax.specs.Words.{◌▸◌, ◌⊗◌, ◌>>◌, over, or_zero}
use Rattle.mv_syntax.specs.Payload.{Payload}
use Rattle.mv_rules.specs.declared.rule.Rule.TheVariants.{SpsLimit}
use Rattle.mv_sps.specs.declared.extension.SpsExtension.{SpsExtension}
use Rattle.mv_sps.specs.Opening.{SpsOpeningValue, is_ext, subs_of, opening}
use Rattle.mv_sps.specs.Pictures.{SpsPicturesValue, pictures}
use Rattle.mv_sps.specs.Coding.{SpsCodingValue, coding}
use Rattle.mv_sps.specs.Usability.{SpsVuiValue, usability}
use Rattle.mv_sps.specs.Extension.{extension}

-- the fields in coded order, in parts; what is not coded is None
pub record SpsValue : Type 0 where
  pub opening : SpsOpeningValue
  pub pictures : SpsPicturesValue
  pub coding : SpsCodingValue
  pub vui : SpsVuiValue
  pub extension : SpsExtension

-- the usability information and the extensions
unfoldable pub ending : ℕ → Table (SpsVuiValue ⊗ SpsExtension)
ending subs = do
  usability subs
  extension

-- the parts behind the opening, in coded order
abbrev pub BehindOpening : Type 0
BehindOpening = SpsPicturesValue ⊗ SpsCodingValue ⊗ SpsVuiValue ⊗ SpsExtension

-- the low bits of a picture order count are log2_max_pic_order_cnt_lsb_minus4 + 4
unfoldable pub behind_opening : ℕ → ℕ → SpsOpeningValue → Table BehindOpening
behind_opening layer vps_sub_layers sps_opening =
    let ext : Bool = is_ext layer sps_opening.sps_max_sub_layers_minus1 in
    let subs : ℕ = subs_of layer vps_sub_layers sps_opening.sps_max_sub_layers_minus1 in do
      sps_pictures ← pictures ext subs
      coding ext (sps_pictures.log2_max_pic_order_cnt_lsb_minus4 + 4)
      ending subs

-- a value's opening, and its parts behind that
abbrev pub in_parts : SpsValue → SpsOpeningValue × BehindOpening
in_parts v =
    v.opening
    ▸ v.pictures
    ▸ v.coding
    ▸ v.vui
    ▸ v.extension

-- the fields up to the tail, of a sequence parameter set of this layer, with the vps_max_sub_layers_minus1 of the VPS
unfoldable pub sps_fields : ℕ → ℕ → Table SpsValue
sps_fields layer vps_sub_layers = shaped
    (λ (opening, (pictures, (coding, (vui, extension)))). record {
      opening = opening;
      pictures = pictures;
      coding = coding;
      vui = vui;
      extension = extension;
    })
    in_parts
    (λ _. refl)
    do
      sps_opening ← opening layer vps_sub_layers
      behind_opening layer vps_sub_layers sps_opening

-- a tail stands behind the fields where sps_extension_4bits is above 0
abbrev pub has_tail : SpsValue → Bool
has_tail v = over 0 (or_zero v.extension.sps_extension_4bits)

-- the payload: at most 65,536 bytes, or else the limit rule (this project's profile); the fields, the tail
-- (sps_extension_data_flag) and the trailing bits
unfoldable pub sps_payload : ℕ → ℕ → Payload SpsValue
sps_payload layer vps_sub_layers = record { fields = sps_fields layer vps_sub_layers; size_rule = SpsLimit; has_tail = has_tail }
