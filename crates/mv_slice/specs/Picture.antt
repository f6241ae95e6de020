-- What a full slice segment header says of its picture (7.3.6.1, F.7.3.6.1), up to its reference pictures in its own layer.
-- cross_layer_bla_flag 1 breaks rule 53 (this project's profile); a slice_type over 2 and a set that the sequence parameter set
-- hasn't break the syntax rule, 52.
use Rattle.std.specs.Prelude.{ℕ, ◌-◌, Bool, not, ◌&&◌, ◌||◌, List, Option, nat_lt, nat_eq, refl}
use Rattle.mv_syntax.specs.Table.{Table, ◌>>=◌, u, ue, named, when, shaped}
use Rattle.mv_syntax.specs.Words.{◌under◌, ◌▸◌, ◌>>◌, ◌!◌∶◌, at_least, over, is_set}
use Rattle.mv_syntax.specs.Loops.{us}
use Rattle.mv_rules.specs.declared.rule.Rule.TheVariants.{CrossLayerBla, SliceSyntax}
use Rattle.mv_short_sets.specs.ShortSetValue.{ShortSetValue}
use Rattle.mv_short_sets.specs.ShortSet.{st_ref_pic_set}
use Rattle.mv_short_sets.specs.Deltas.{deltas_of_each}
use Rattle.mv_slice.specs.declared.picture.SliceReferences.{SliceReferences}
use Rattle.mv_slice.specs.Context.{SliceContextValue}
use Rattle.mv_fields.specs.Widths.{clog2}
use Rattle.mv_slice.specs.Numbers.{is_idr}
use Rattle.mv_slice.specs.LongTerms.{LongTermsValue, long_terms}

-- the set of a slice segment header stands behind all sets of the sequence parameter set
abbrev pub own_set : SliceContextValue → Table ShortSetValue
own_set ctx = st_ref_pic_set ctx.num_short_term_ref_pic_sets ctx.num_short_term_ref_pic_sets (deltas_of_each ctx.short_sets) under SliceSyntax

-- the reference pictures in its own layer of a picture that is no IDR picture
unfoldable pub references : SliceContextValue → Table SliceReferences
references ctx = shaped
    (λ (short_term_ref_pic_set_sps_flag, (st_ref_pic_set, (short_term_ref_pic_set_idx, (long_terms, slice_temporal_mvp_enabled_flag)))). record {
      short_term_ref_pic_set_sps_flag = short_term_ref_pic_set_sps_flag;
      st_ref_pic_set = st_ref_pic_set;
      short_term_ref_pic_set_idx = short_term_ref_pic_set_idx;
      long_terms = long_terms;
      slice_temporal_mvp_enabled_flag = slice_temporal_mvp_enabled_flag;
    })
    (λ v.
    v.short_term_ref_pic_set_sps_flag
    ▸ v.st_ref_pic_set
    ▸ v.short_term_ref_pic_set_idx
    ▸ v.long_terms
    ▸ v.slice_temporal_mvp_enabled_flag)
    (λ _. refl)
    do
      short_term_ref_pic_set_sps_flag ← named "short_term_ref_pic_set_sps_flag" (u 1 ! SliceSyntax ∶ (λ flag. is_set flag && nat_eq ctx.num_short_term_ref_pic_sets 0))
      when (not (is_set short_term_ref_pic_set_sps_flag)) (own_set ctx)
      named "short_term_ref_pic_set_idx" (when (is_set short_term_ref_pic_set_sps_flag && nat_lt 1 ctx.num_short_term_ref_pic_sets)
          (u (clog2 ctx.num_short_term_ref_pic_sets) ! SliceSyntax ∶ at_least ctx.num_short_term_ref_pic_sets))
      when (is_set ctx.long_term_ref_pics_present_flag) (long_terms ctx)
      named "slice_temporal_mvp_enabled_flag" (when (is_set ctx.sps_temporal_mvp_enabled_flag) (u 1))

-- the fields in coded order
pub record SlicePictureValue : Type 0 where
  pub discardable_flag : Option ℕ
  pub cross_layer_bla_flag : Option ℕ
  pub slice_reserved_flag : List ℕ
  pub slice_type : ℕ
  pub pic_output_flag : Option ℕ
  pub slice_pic_order_cnt_lsb : Option ℕ
  pub references : Option SliceReferences

-- whether the low bits of the picture order count are coded: for all pictures but those IDR pictures whose low bits are 0
abbrev pub has_lsb : SliceContextValue → ℕ → Bool
has_lsb ctx nal_unit_type =
    not (is_idr nal_unit_type) || (nat_lt 0 ctx.layer && not (is_set ctx.poc_lsb_not_present_flag))

unfoldable pub picture : SliceContextValue → ℕ → Table SlicePictureValue
picture ctx nal_unit_type = shaped
    (λ (discardable_flag, (cross_layer_bla_flag, (slice_reserved_flag, (slice_type, (pic_output_flag, (slice_pic_order_cnt_lsb, references)))))). record {
      discardable_flag = discardable_flag;
      cross_layer_bla_flag = cross_layer_bla_flag;
      slice_reserved_flag = slice_reserved_flag;
      slice_type = slice_type;
      pic_output_flag = pic_output_flag;
      slice_pic_order_cnt_lsb = slice_pic_order_cnt_lsb;
      references = references;
    })
    (λ v.
    v.discardable_flag
    ▸ v.cross_layer_bla_flag
    ▸ v.slice_reserved_flag
    ▸ v.slice_type
    ▸ v.pic_output_flag
    ▸ v.slice_pic_order_cnt_lsb
    ▸ v.references)
    (λ _. refl)
    do
      named "discardable_flag" (when (nat_lt 0 ctx.num_extra_slice_header_bits) (u 1))
      named "cross_layer_bla_flag" (when (nat_lt 1 ctx.num_extra_slice_header_bits) (u 1 ! CrossLayerBla ∶ is_set))
      named "slice_reserved_flag" (us 2 (ctx.num_extra_slice_header_bits - 2) 1)
      named "slice_type" (ue ! SliceSyntax ∶ over 2)
      named "pic_output_flag" (when (is_set ctx.output_flag_present_flag) (u 1))
      named "slice_pic_order_cnt_lsb" (when (has_lsb ctx nal_unit_type) (u ctx.lsb_bits))
      when (not (is_idr nal_unit_type)) (references ctx)
