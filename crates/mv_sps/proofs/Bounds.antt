-- What the fields of a valid sequence parameter set obey.
use Rattle.std.proofs.Common.{◌≡◌, ℕ, ◌≤◌, nat_lt, false, arith}
use Rattle.mv_syntax.specs.Table.{Valid}
use Rattle.mv_sps.specs.Opening.{subs_of}
use Rattle.mv_sps.specs.Pictures.{pictures}
use Rattle.mv_sps.specs.Sps.{SpsValue, sps_fields, behind_opening}
use Rattle.mv_sps.proofs.Subs.{few_valid}

pub fields_few : (layer vps_sub_layers : ℕ) (v : SpsValue) → vps_sub_layers ≤ 6 → Valid (sps_fields layer vps_sub_layers) v
    → subs_of layer vps_sub_layers v.opening.sps_max_sub_layers_minus1 ≤ 6
unfolding sps_fields
fields_few layer vps_sub_layers v h valid = few_valid layer vps_sub_layers v.opening h valid.0.0

pub fields_lsb : (layer vps_sub_layers : ℕ) (v : SpsValue) → Valid (sps_fields layer vps_sub_layers) v → v.pictures.log2_max_pic_order_cnt_lsb_minus4 ≤ 12
unfolding sps_fields behind_opening pictures
fields_lsb layer vps_sub_layers v valid = not_over v.pictures.log2_max_pic_order_cnt_lsb_minus4 valid.0.1.0.0.1.1.0.1
  where
    not_over : (n : ℕ) → nat_lt 12 n ≡ false → n ≤ 12
    not_over n e = grind arith
