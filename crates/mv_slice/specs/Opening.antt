-- slice_segment_header (7.3.6.1, F.7.3.6.1): its first fields, which name the picture parameter set, and the address of the
-- segment. An id over 63 breaks the syntax rule, 52 (this project's profile).
use Rattle.std.specs.Prelude.{ℕ, Bool, not, ◌&&◌, refl}
use Rattle.mv_syntax.specs.Table.{Table, u, ue, named, when, shaped}
use Rattle.mv_syntax.specs.Words.{◌▸◌, ◌>>◌, ◌!◌∶◌, over, is_set}
use Rattle.mv_rules.specs.declared.rule.Rule.TheVariants.{SliceSyntax}
use Rattle.mv_slice.specs.declared.opening.SliceOpening.{SliceOpening}
use Rattle.mv_slice.specs.declared.opening.SliceAddress.{SliceAddress}
use Rattle.mv_slice.specs.Context.{SliceContextValue}
use Rattle.mv_fields.specs.Widths.{clog2}
use Rattle.mv_slice.specs.Numbers.{is_irap}

-- the fields up to the id of the picture parameter set, which ask for nothing but the unit's nal_unit_type
unfoldable pub opening : ℕ → Table SliceOpening
opening nal_unit_type = shaped
    (λ (first_slice_segment_in_pic_flag, (no_output_of_prior_pics_flag, slice_pic_parameter_set_id)). record {
      first_slice_segment_in_pic_flag = first_slice_segment_in_pic_flag;
      no_output_of_prior_pics_flag = no_output_of_prior_pics_flag;
      slice_pic_parameter_set_id = slice_pic_parameter_set_id;
    })
    (λ v.
    v.first_slice_segment_in_pic_flag
    ▸ v.no_output_of_prior_pics_flag
    ▸ v.slice_pic_parameter_set_id)
    (λ _. refl)
    do
      named "first_slice_segment_in_pic_flag" (u 1)
      named "no_output_of_prior_pics_flag" (when (is_irap nal_unit_type) (u 1))
      named "slice_pic_parameter_set_id" (ue ! SliceSyntax ∶ over 63)

-- where a segment that isn't the picture's first begins, in coding tree blocks
unfoldable pub address : SliceContextValue → Bool → Table SliceAddress
address ctx first = shaped
    (λ (dependent_slice_segment_flag, slice_segment_address). record {
      dependent_slice_segment_flag = dependent_slice_segment_flag;
      slice_segment_address = slice_segment_address;
    })
    (λ v.
    v.dependent_slice_segment_flag
    ▸ v.slice_segment_address)
    (λ _. refl)
    do
      named "dependent_slice_segment_flag" (when (not first && is_set ctx.dependent_slice_segments_enabled_flag) (u 1))
      named "slice_segment_address" (when (not first) (u (clog2 ctx.ctbs)))
