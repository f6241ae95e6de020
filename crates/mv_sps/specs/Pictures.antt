-- The pictures in a sequence parameter set (7.3.2.2.1, F.7.3.2.2.1): their format, how many bits of their order counts slices
-- code, and the sub-layers' numbers of pictures. Over 16 such bits and over 15 such pictures break
-- the limit rule (this project's profile).
use Rattle.std.specs.Prelude.{ℕ, Bool, not, Option, refl}
use Rattle.mv_syntax.specs.Table.{Table, ue, named, when, shaped}
use Rattle.mv_syntax.specs.Words.{◌under◌, ◌▸◌, ◌>>◌, ◌!◌∶◌, over}
use Rattle.mv_rules.specs.declared.rule.Rule.TheVariants.{SpsLimit}
use Rattle.mv_common.specs.declared.sub_layer_ordering.ParameterSet.TheVariants.{Sequence}
use Rattle.mv_common.specs.SubLayerOrdering.{SubLayerOrderingValue, sub_layer_ordering}
use Rattle.mv_sps.specs.declared.rep_format.SpsRepFormat.{SpsRepFormat}
use Rattle.mv_sps.specs.declared.picture_format.SpsPictureFormat.{SpsPictureFormat}
use Rattle.mv_sps.specs.Format.{rep_format, picture_format}

pub record SpsPicturesValue : Type 0 where
  pub rep_format : Option SpsRepFormat
  pub picture_format : Option SpsPictureFormat
  pub log2_max_pic_order_cnt_lsb_minus4 : ℕ
  pub ordering : Option SubLayerOrderingValue

unfoldable pub pictures : Bool → ℕ → Table SpsPicturesValue
pictures ext subs = shaped
    (λ (rep_format, (picture_format, (log2_max_pic_order_cnt_lsb_minus4, ordering))). record {
      rep_format = rep_format;
      picture_format = picture_format;
      log2_max_pic_order_cnt_lsb_minus4 = log2_max_pic_order_cnt_lsb_minus4;
      ordering = ordering;
    })
    (λ v.
    v.rep_format
    ▸ v.picture_format
    ▸ v.log2_max_pic_order_cnt_lsb_minus4
    ▸ v.ordering)
    (λ _. refl)
    do
      when ext rep_format
      when (not ext) picture_format
      named "log2_max_pic_order_cnt_lsb_minus4" (ue ! SpsLimit ∶ over 12)
      when (not ext) (sub_layer_ordering Sequence subs under SpsLimit)
