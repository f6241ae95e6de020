-- slice_segment_header (7.3.6.1, F.7.3.6.1), part by part: each part is a run of its lines.
use Rattle.std.specs.Prelude.{ℕ, ◌+◌, Bool, false, not, ◌||◌, List, [], Option, Some, None, refl}
use Rattle.mv_syntax.specs.Table.{Table, ◌>>=◌, when, shaped}
use Rattle.mv_syntax.specs.Words.{whole_bytes, ◌▸◌, ◌>>◌, is_set, coded_set}
use Rattle.mv_slice.specs.declared.opening.SliceOpening.{SliceOpening}
use Rattle.mv_slice.specs.declared.opening.SliceAddress.{SliceAddress}
use Rattle.mv_slice.specs.declared.filters.SliceFilters.{SliceFilters}
use Rattle.mv_slice.specs.Context.{SliceContextValue}
use Rattle.mv_slice.specs.Opening.{opening, address}
use Rattle.mv_slice.specs.declared.picture.SliceReferences.{SliceReferences}
use Rattle.mv_slice.specs.declared.prediction.SlicePrediction.{SlicePrediction}
use Rattle.mv_slice.specs.declared.slice.SliceFull.{SliceFull}
use Rattle.mv_slice.specs.declared.slice.SliceHead.{SliceHead}
use Rattle.mv_slice.specs.Picture.{SlicePictureValue, picture}
use Rattle.mv_slice.specs.Layers.{num_active_ref_layer_pics, active_layers}
use Rattle.mv_slice.specs.InterLayer.{SliceInterLayerValue, inter_layer}
use Rattle.mv_slice.specs.Derived.{num_used}
use Rattle.mv_slice.specs.Prediction.{prediction}
use Rattle.mv_slice.specs.Filters.{filters}
use Rattle.mv_slice.specs.Ending.{SliceEndingValue, ending}

-- NumPicTotalCurr: the used entries of the reference set and the active layers (F.7.4.7.2)
unfoldable pub num_pic_total_curr : SliceContextValue → SlicePictureValue → SliceInterLayerValue → ℕ
num_pic_total_curr ctx picture inter_layer =
    num_used ctx picture.references
    + num_active_ref_layer_pics ctx inter_layer.inter_layer_pred_enabled_flag inter_layer.num_inter_layer_ref_pics_minus1

-- slice_temporal_mvp_enabled_flag is 1
abbrev pub has_temporal_mvp : Option SliceReferences → Bool
has_temporal_mvp (Some references) = coded_set references.slice_temporal_mvp_enabled_flag
has_temporal_mvp None = false

-- one of the flags of sample adaptive offset is 1
abbrev pub has_sao : SlicePrediction → Bool
has_sao prediction = coded_set prediction.slice_sao_luma_flag || coded_set prediction.slice_sao_chroma_flag

-- the fields that a dependent segment takes from the segment before it
unfoldable pub full : SliceContextValue → ℕ → Table SliceFull
full ctx nal_unit_type = shaped
    (λ (picture, (inter_layer, (prediction, filters))). record {
      picture = picture;
      inter_layer = inter_layer;
      prediction = prediction;
      filters = filters;
    })
    (λ v.
    v.picture
    ▸ v.inter_layer
    ▸ v.prediction
    ▸ v.filters)
    (λ _. refl)
    do
      picture_fields ← picture ctx nal_unit_type
      inter_layer_fields ← inter_layer ctx
      prediction_fields ← prediction ctx picture_fields.slice_type (num_pic_total_curr ctx picture_fields inter_layer_fields) (has_temporal_mvp picture_fields.references)
      filters ctx (has_sao prediction_fields)

-- the fields in coded order, in parts; a dependent segment has no full part
unfoldable pub slice_fields : SliceContextValue → ℕ → Table SliceHead
slice_fields ctx nal_unit_type = shaped
    (λ (opening, (address, (full, ending))). record {
      opening = opening;
      address = address;
      full = full;
      ending = ending;
    })
    (λ v.
    v.opening
    ▸ v.address
    ▸ v.full
    ▸ v.ending)
    (λ _. refl)
    do
      opening_fields ← opening nal_unit_type
      address_fields ← address ctx (is_set opening_fields.first_slice_segment_in_pic_flag)
      when (not (coded_set address_fields.dependent_slice_segment_flag)) (full ctx nal_unit_type)
      ending ctx

-- the header: its fields, and a one bit with zeros up to the byte's end (byte_alignment(), 7.3.2.12)
unfoldable pub slice_header : SliceContextValue → ℕ → Table SliceHead
slice_header ctx nal_unit_type = whole_bytes (slice_fields ctx nal_unit_type)

-- ---- What a header derives; a dependent segment has neither

-- its NumPicTotalCurr
abbrev pub header_total : SliceContextValue → Option SliceFull → ℕ
header_total ctx (Some full) = num_pic_total_curr ctx full.picture full.inter_layer
header_total ctx None = 0

-- its active layers, by their numbers
abbrev pub header_layers : SliceContextValue → Option SliceFull → List ℕ
header_layers ctx (Some full) =
    active_layers ctx (num_active_ref_layer_pics ctx full.inter_layer.inter_layer_pred_enabled_flag full.inter_layer.num_inter_layer_ref_pics_minus1)
    full.inter_layer.inter_layer_pred_layer_idc
header_layers ctx None = []
