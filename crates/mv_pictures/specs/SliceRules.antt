-- The rules that are tried on slice segments by their sets and headers (7.4.7.1; this project's profile).
use Rattle.std.specs.Prelude.{ℕ, Bool, true, false, not, ◌&&◌, ◌||◌, List, [], ◌∷◌, Option, Some, None, is_some, is_none, option_map, nat_eq, nat_le, nat_lt}
use Rattle.std.specs.List.{find}
use Rattle.mv_syntax.specs.Words.{◌otherwise◌, is_set, or_zero}
use Rattle.mv_rules.specs.declared.rule.Rule.{Rule}
use Rattle.mv_short_sets.specs.ShortSetValue.{ShortSetValue}
use Rattle.mv_slice.specs.declared.opening.SliceOpening.{SliceOpening}
use Rattle.mv_slice.specs.declared.slice.SliceHead.{SliceHead}
use Rattle.mv_slice.specs.declared.slice.SliceFull.{SliceFull}
use Rattle.mv_slice.specs.declared.picture.SliceReferences.{SliceReferences}
use Rattle.mv_slice.specs.declared.long_terms.LongTerm.{LongTerm}
use Rattle.mv_slice.specs.Context.{SliceContextValue}
use Rattle.mv_slice.specs.LongTerms.{LongTermsValue}
use Rattle.mv_slice.specs.InterLayer.{SliceInterLayerValue}
use Rattle.mv_slice.specs.Picture.{SlicePictureValue}
use Rattle.mv_pictures.specs.AccessUnits.{tid, is_own_picture}
use Rattle.mv_pictures.specs.Facts.{Fact, own_picture}
use Rattle.mv_pictures.specs.SliceFields.{head_of, full_of}
use Rattle.mv_pictures.specs.Judged.{kind, is_slice}
use Rattle.mv_pictures.specs.UnitRules.{fails, is_cut}

-- ---- Sets and header

-- MissingPps: the first fields name no picture parameter set in reach
unfoldable pub missing_pps : Fact → Bool
missing_pps p = is_slice p && is_some p.placed.item.opening && is_none p.sets.pps

-- MissingSps: that names no sequence parameter set in reach, or this names no format of the video parameter set
unfoldable pub missing_sps : Fact → Bool
missing_sps p = is_slice p && is_some p.sets.pps && (is_none p.sets.sps || is_none p.sets.format)

-- SliceSyntax: no header reads at the head of the payload, and no other rule cuts it
unfoldable pub slice_syntax : Fact → Bool
slice_syntax p = is_slice p && (is_none p.placed.item.opening || (option_map (λ r. fails r || is_cut Rule.SliceSyntax r) p.header otherwise false))

-- CrossLayerBla: cross_layer_bla_flag is 1
unfoldable pub cross_layer_bla : Fact → Bool
cross_layer_bla p = is_slice p && (option_map (is_cut Rule.CrossLayerBla) p.header otherwise false)

-- ---- Fields that agree in all segments of a picture

-- the same value, or in both none; the same items
unfoldable pub same_option : {A : Type 0} → (A → A → Bool) → Option A → Option A → Bool
same_option same None None = true
same_option same None (Some b) = false
same_option same (Some a) None = false
same_option same (Some a) (Some b) = same a b

unfoldable pub same_list : {A : Type 0} → (A → A → Bool) → List A → List A → Bool
same_list same [] [] = true
same_list same [] (b ∷ bs) = false
same_list same (a ∷ as_) [] = false
same_list same (a ∷ as_) (b ∷ bs) = same a b && same_list same as_ bs

abbrev pub same_field : Option ℕ → Option ℕ → Bool
same_field a b = same_option nat_eq a b

abbrev pub same_fields : List ℕ → List ℕ → Bool
same_fields a b = same_list nat_eq a b

unfoldable pub same_short_set : ShortSetValue → ShortSetValue → Bool
same_short_set a b =
    same_field a.inter_ref_pic_set_prediction_flag b.inter_ref_pic_set_prediction_flag
    && same_field a.delta_idx_minus1 b.delta_idx_minus1
    && same_field a.delta_rps_sign b.delta_rps_sign
    && same_field a.abs_delta_rps_minus1 b.abs_delta_rps_minus1
    && same_fields a.used_by_curr_pic_flag b.used_by_curr_pic_flag
    && same_list same_field a.use_delta_flag b.use_delta_flag
    && same_field a.num_negative_pics b.num_negative_pics
    && same_field a.num_positive_pics b.num_positive_pics
    && same_fields a.delta_poc_s0_minus1 b.delta_poc_s0_minus1
    && same_fields a.used_by_curr_pic_s0_flag b.used_by_curr_pic_s0_flag
    && same_fields a.delta_poc_s1_minus1 b.delta_poc_s1_minus1
    && same_fields a.used_by_curr_pic_s1_flag b.used_by_curr_pic_s1_flag

unfoldable pub same_long_term : LongTerm → LongTerm → Bool
same_long_term a b =
    same_field a.lt_idx_sps b.lt_idx_sps
    && same_field a.poc_lsb_lt b.poc_lsb_lt
    && same_field a.used_by_curr_pic_lt_flag b.used_by_curr_pic_lt_flag
    && nat_eq a.delta_poc_msb_present_flag b.delta_poc_msb_present_flag
    && same_field a.delta_poc_msb_cycle_lt b.delta_poc_msb_cycle_lt

unfoldable pub same_long_terms : LongTermsValue → LongTermsValue → Bool
same_long_terms a b =
    same_field a.num_long_term_sps b.num_long_term_sps
    && nat_eq a.num_long_term_pics b.num_long_term_pics
    && same_list same_long_term a.entries b.entries

unfoldable pub same_references : SliceReferences → SliceReferences → Bool
same_references a b =
    nat_eq a.short_term_ref_pic_set_sps_flag b.short_term_ref_pic_set_sps_flag
    && same_option same_short_set a.st_ref_pic_set b.st_ref_pic_set
    && same_field a.short_term_ref_pic_set_idx b.short_term_ref_pic_set_idx
    && same_option same_long_terms a.long_terms b.long_terms
    && same_field a.slice_temporal_mvp_enabled_flag b.slice_temporal_mvp_enabled_flag

unfoldable pub same_inter_layer : SliceInterLayerValue → SliceInterLayerValue → Bool
same_inter_layer a b =
    same_field a.inter_layer_pred_enabled_flag b.inter_layer_pred_enabled_flag
    && same_field a.num_inter_layer_ref_pics_minus1 b.num_inter_layer_ref_pics_minus1
    && same_option same_fields a.inter_layer_pred_layer_idc b.inter_layer_pred_layer_idc

-- of full headers: not slice_type, cross_layer_bla_flag and slice_reserved_flag
unfoldable pub same_picture : SlicePictureValue → SlicePictureValue → Bool
same_picture a b =
    same_field a.discardable_flag b.discardable_flag
    && same_field a.pic_output_flag b.pic_output_flag
    && same_field a.slice_pic_order_cnt_lsb b.slice_pic_order_cnt_lsb
    && same_option same_references a.references b.references

unfoldable pub same_full : SliceFull → SliceFull → Bool
same_full a b = same_picture a.picture b.picture && same_inter_layer a.inter_layer b.inter_layer

-- of the first fields, in dependent segments too
unfoldable pub same_opening : SliceOpening → SliceOpening → Bool
same_opening a b =
    same_field a.no_output_of_prior_pics_flag b.no_output_of_prior_pics_flag
    && nat_eq a.slice_pic_parameter_set_id b.slice_pic_parameter_set_id

-- a dependent segment has no other fields
abbrev pub full_agrees : Option SliceFull → Option SliceFull → Bool
full_agrees None first = true
full_agrees (Some later) first = option_map (same_full later) first otherwise false

unfoldable pub agrees : Fact → Fact → Bool
agrees p first =
    nat_eq (kind p) (kind first)
    && nat_eq (tid p.placed) (tid first.placed)
    && same_option same_opening p.placed.item.opening first.placed.item.opening
    && full_agrees (full_of p) (full_of first)

-- SliceDiffers: a later segment differs from its picture's first one in one of these
unfoldable pub slice_differs : List Fact → Fact → Bool
slice_differs past p = is_slice p && (option_map (λ first. not (agrees p first)) (own_picture past p.placed) otherwise false)

-- ---- Addresses

-- slice_segment_address: 0 in a first segment
unfoldable pub address : Fact → ℕ
address p = option_map (λ (h : SliceHead). or_zero h.address.slice_segment_address) (head_of p) otherwise 0

-- the segment before a later one, of its layer and access unit
unfoldable pub segment_before : List Fact → Fact → Option Fact
segment_before past p = find (λ (f : Fact). is_slice f && is_own_picture p.placed f.placed) past

abbrev pub follows : Fact → Fact → Bool
follows p earlier = nat_lt (address earlier) (address p)

-- a later segment's address is 0, or not in the picture, or without tiles not above that of the segment before
unfoldable pub is_bad_address : List Fact → Fact → SliceContextValue → Bool
is_bad_address past p ctx =
    nat_eq (address p) 0
    || nat_le ctx.ctbs (address p)
    || (not (is_set ctx.tiles_enabled_flag) && not (option_map (follows p) (segment_before past p) otherwise true))

-- AddressOrder
unfoldable pub address_order : List Fact → Fact → Bool
address_order past p = is_slice p && is_some (own_picture past p.placed) && (option_map (is_bad_address past p) p.context otherwise false)
