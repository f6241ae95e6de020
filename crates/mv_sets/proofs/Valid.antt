-- What is valid can be kept.
use Rattle.std.proofs.Common.{◌≡◌, ℕ, ◌<◌, ◌≤◌, Bool, false, Option, Some, None, arith}
use Rattle.std.specs.Prelude.{IfSome}
use Rattle.std.proofs.lemmas.Bool.{ltb-false}
use Rattle.mv_syntax.specs.Table.{Valid, when}
use Rattle.mv_syntax.specs.Words.{over}
use Rattle.mv_pps.specs.Opening.{opening as pps_opening}
use Rattle.mv_pps.specs.Pps.{PpsValue, behind_opening as behind_pps_opening, pps_fields}
use Rattle.mv_sps.specs.Format.{picture_format}
use Rattle.mv_sps.specs.Opening.{opening}
use Rattle.mv_sps.specs.Pictures.{pictures}
use Rattle.mv_sps.specs.Sps.{SpsValue, behind_opening, sps_fields}
use Rattle.mv_sps.specs.declared.picture_format.SpsPictureFormat.{SpsPictureFormat}
use Rattle.mv_sets.specs.Formats.{FormatFits, SpsFormatFits}

within : (n v : ℕ) → over n v ≡ false → v ≤ n
within n v h = ltb-false n v h

format-fits : (c : Bool) (o : Option SpsPictureFormat) → Valid (when c picture_format) o → IfSome o FormatFits
unfolding picture_format
format-fits c None h = tt
format-fits c (Some f) h =
    let q = h.1.0 in
    record {
      chroma = within 3 f.chroma_format_idc q.0.1;
      luma_depth = within 8 f.bit_depth_luma_minus8 q.1.1.1.1.1.1.1.1.1.0.1;
      chroma_depth = within 8 f.bit_depth_chroma_minus8 q.1.1.1.1.1.1.1.1.1.1.1;
    }

pub sps-kept : (layer subs : ℕ) (v : SpsValue) → Valid (sps_fields layer subs) v → (v.opening.sps_seq_parameter_set_id < 16) × SpsFormatFits v
unfolding sps_fields behind_opening opening pictures
sps-kept layer subs v h =
    let few : v.opening.sps_seq_parameter_set_id ≤ 15 = within 15 v.opening.sps_seq_parameter_set_id h.0.0.0.1.1.1.1.1 in
    (omega (arith, few), format-fits _ v.pictures.picture_format h.0.1.0.0.1.0)

pub pps-kept : (v : PpsValue) → Valid pps_fields v → v.opening.pps_pic_parameter_set_id < 64
unfolding pps_fields behind_pps_opening pps_opening
pps-kept v h =
    let few : v.opening.pps_pic_parameter_set_id ≤ 63 = within 63 v.opening.pps_pic_parameter_set_id h.0.0.0.0.1 in
    omega (arith, few)
