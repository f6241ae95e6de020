-- Fields that agree are the same, and so a picture has as many references by each of its segments.
use Rattle.std.proofs.Common.{◌≡◌, ℕ, ◌+◌, Bool, true, ◌&&◌, List, [], ◌∷◌, Option, Some, None, refl, ap, ap₂, ◌∙◌}
use Rattle.std.specs.Prelude.{nat_eq}
use Rattle.std.proofs.lemmas.Bool.{and_parts, eqb-true}
use Rattle.mv_short_sets.specs.ShortSetValue.{ShortSetValue}
use Rattle.mv_slice.specs.declared.long_terms.LongTerm.{LongTerm}
use Rattle.mv_slice.specs.declared.picture.SliceReferences.{SliceReferences}
use Rattle.mv_slice.specs.declared.slice.SliceFull.{SliceFull}
use Rattle.mv_slice.specs.Context.{SliceContextValue}
use Rattle.mv_slice.specs.Derived.{long_entries, num_long_used, num_short_used, num_used, short_deltas}
use Rattle.mv_slice.specs.InterLayer.{SliceInterLayerValue}
use Rattle.mv_slice.specs.Layers.{num_active_ref_layer_pics}
use Rattle.mv_slice.specs.LongTerms.{LongTermsValue}
use Rattle.mv_slice.specs.Picture.{SlicePictureValue}
use Rattle.mv_slice.specs.Slice.{num_pic_total_curr}
use Rattle.mv_pictures.specs.SliceRules.{same_field, same_fields, same_full, same_inter_layer, same_list, same_long_term, same_long_terms, same_option, same_picture, same_references, same_short_set}

pub option-eq : {A : Type 0} (same : A → A → Bool) → ((x y : A) → same x y ≡ true → x ≡ y) → (a b : Option A) → same_option same a b ≡ true → a ≡ b
unfolding same_option
option-eq same eq None None e = refl
option-eq same eq None (Some b) e = absurd (cc)
option-eq same eq (Some a) None e = absurd (cc)
option-eq same eq (Some a) (Some b) e = ap Some (eq a b e)

list-eq : {A : Type 0} (same : A → A → Bool) → ((x y : A) → same x y ≡ true → x ≡ y) → (as_ bs : List A) → same_list same as_ bs ≡ true → as_ ≡ bs
unfolding same_list
list-eq same eq [] [] e = refl
list-eq same eq [] (b ∷ bs) e = absurd (cc)
list-eq same eq (a ∷ as_) [] e = absurd (cc)
list-eq same eq (a ∷ as_) (b ∷ bs) e =
    let parts = and_parts (same a b) (same_list same as_ bs) e in
    ap₂ (λ x xs. x ∷ xs) (eq a b parts.0) (list-eq same eq as_ bs parts.1)

field-eq : (a b : Option ℕ) → same_field a b ≡ true → a ≡ b
field-eq = option-eq nat_eq eqb-true

fields-eq : (a b : List ℕ) → same_fields a b ≡ true → a ≡ b
fields-eq = list-eq nat_eq eqb-true

short_set_of : Option ℕ → Option ℕ → Option ℕ → Option ℕ → List ℕ → List (Option ℕ) → Option ℕ → Option ℕ → List ℕ → List ℕ → List ℕ → List ℕ → ShortSetValue
short_set_of x0 x1 x2 x3 x4 x5 x6 x7 x8 x9 x10 x11 = record { inter_ref_pic_set_prediction_flag = x0; delta_idx_minus1 = x1; delta_rps_sign = x2; abs_delta_rps_minus1 = x3; used_by_curr_pic_flag = x4; use_delta_flag = x5; num_negative_pics = x6; num_positive_pics = x7; delta_poc_s0_minus1 = x8; used_by_curr_pic_s0_flag = x9; delta_poc_s1_minus1 = x10; used_by_curr_pic_s1_flag = x11 }

short_set-eq : (a b : ShortSetValue) → same_short_set a b ≡ true → a ≡ b
unfolding same_short_set short_set_of
short_set-eq a b e =
    let s0 : Bool = same_field a.inter_ref_pic_set_prediction_flag b.inter_ref_pic_set_prediction_flag in
    let s1 : Bool = same_field a.delta_idx_minus1 b.delta_idx_minus1 in
    let s2 : Bool = same_field a.delta_rps_sign b.delta_rps_sign in
    let s3 : Bool = same_field a.abs_delta_rps_minus1 b.abs_delta_rps_minus1 in
    let s4 : Bool = same_fields a.used_by_curr_pic_flag b.used_by_curr_pic_flag in
    let s5 : Bool = same_list same_field a.use_delta_flag b.use_delta_flag in
    let s6 : Bool = same_field a.num_negative_pics b.num_negative_pics in
    let s7 : Bool = same_field a.num_positive_pics b.num_positive_pics in
    let s8 : Bool = same_fields a.delta_poc_s0_minus1 b.delta_poc_s0_minus1 in
    let s9 : Bool = same_fields a.used_by_curr_pic_s0_flag b.used_by_curr_pic_s0_flag in
    let s10 : Bool = same_fields a.delta_poc_s1_minus1 b.delta_poc_s1_minus1 in
    let s11 : Bool = same_fields a.used_by_curr_pic_s1_flag b.used_by_curr_pic_s1_flag in
    let p11 = and_parts (s0 && s1 && s2 && s3 && s4 && s5 && s6 && s7 && s8 && s9 && s10) s11 e in
    let p10 = and_parts (s0 && s1 && s2 && s3 && s4 && s5 && s6 && s7 && s8 && s9) s10 p11.0 in
    let p9 = and_parts (s0 && s1 && s2 && s3 && s4 && s5 && s6 && s7 && s8) s9 p10.0 in
    let p8 = and_parts (s0 && s1 && s2 && s3 && s4 && s5 && s6 && s7) s8 p9.0 in
    let p7 = and_parts (s0 && s1 && s2 && s3 && s4 && s5 && s6) s7 p8.0 in
    let p6 = and_parts (s0 && s1 && s2 && s3 && s4 && s5) s6 p7.0 in
    let p5 = and_parts (s0 && s1 && s2 && s3 && s4) s5 p6.0 in
    let p4 = and_parts (s0 && s1 && s2 && s3) s4 p5.0 in
    let p3 = and_parts (s0 && s1 && s2) s3 p4.0 in
    let p2 = and_parts (s0 && s1) s2 p3.0 in
    let p1 = and_parts (s0) s1 p2.0 in
    ap (λ x. short_set_of x a.delta_idx_minus1 a.delta_rps_sign a.abs_delta_rps_minus1 a.used_by_curr_pic_flag a.use_delta_flag a.num_negative_pics a.num_positive_pics a.delta_poc_s0_minus1 a.used_by_curr_pic_s0_flag a.delta_poc_s1_minus1 a.used_by_curr_pic_s1_flag) (field-eq a.inter_ref_pic_set_prediction_flag b.inter_ref_pic_set_prediction_flag p1.0)
    ∙ ap (λ x. short_set_of b.inter_ref_pic_set_prediction_flag x a.delta_rps_sign a.abs_delta_rps_minus1 a.used_by_curr_pic_flag a.use_delta_flag a.num_negative_pics a.num_positive_pics a.delta_poc_s0_minus1 a.used_by_curr_pic_s0_flag a.delta_poc_s1_minus1 a.used_by_curr_pic_s1_flag) (field-eq a.delta_idx_minus1 b.delta_idx_minus1 p1.1)
    ∙ ap (λ x. short_set_of b.inter_ref_pic_set_prediction_flag b.delta_idx_minus1 x a.abs_delta_rps_minus1 a.used_by_curr_pic_flag a.use_delta_flag a.num_negative_pics a.num_positive_pics a.delta_poc_s0_minus1 a.used_by_curr_pic_s0_flag a.delta_poc_s1_minus1 a.used_by_curr_pic_s1_flag) (field-eq a.delta_rps_sign b.delta_rps_sign p2.1)
    ∙ ap (λ x. short_set_of b.inter_ref_pic_set_prediction_flag b.delta_idx_minus1 b.delta_rps_sign x a.used_by_curr_pic_flag a.use_delta_flag a.num_negative_pics a.num_positive_pics a.delta_poc_s0_minus1 a.used_by_curr_pic_s0_flag a.delta_poc_s1_minus1 a.used_by_curr_pic_s1_flag) (field-eq a.abs_delta_rps_minus1 b.abs_delta_rps_minus1 p3.1)
    ∙ ap (λ x. short_set_of b.inter_ref_pic_set_prediction_flag b.delta_idx_minus1 b.delta_rps_sign b.abs_delta_rps_minus1 x a.use_delta_flag a.num_negative_pics a.num_positive_pics a.delta_poc_s0_minus1 a.used_by_curr_pic_s0_flag a.delta_poc_s1_minus1 a.used_by_curr_pic_s1_flag) (fields-eq a.used_by_curr_pic_flag b.used_by_curr_pic_flag p4.1)
    ∙ ap (λ x. short_set_of b.inter_ref_pic_set_prediction_flag b.delta_idx_minus1 b.delta_rps_sign b.abs_delta_rps_minus1 b.used_by_curr_pic_flag x a.num_negative_pics a.num_positive_pics a.delta_poc_s0_minus1 a.used_by_curr_pic_s0_flag a.delta_poc_s1_minus1 a.used_by_curr_pic_s1_flag) (list-eq same_field field-eq a.use_delta_flag b.use_delta_flag p5.1)
    ∙ ap (λ x. short_set_of b.inter_ref_pic_set_prediction_flag b.delta_idx_minus1 b.delta_rps_sign b.abs_delta_rps_minus1 b.used_by_curr_pic_flag b.use_delta_flag x a.num_positive_pics a.delta_poc_s0_minus1 a.used_by_curr_pic_s0_flag a.delta_poc_s1_minus1 a.used_by_curr_pic_s1_flag) (field-eq a.num_negative_pics b.num_negative_pics p6.1)
    ∙ ap (λ x. short_set_of b.inter_ref_pic_set_prediction_flag b.delta_idx_minus1 b.delta_rps_sign b.abs_delta_rps_minus1 b.used_by_curr_pic_flag b.use_delta_flag b.num_negative_pics x a.delta_poc_s0_minus1 a.used_by_curr_pic_s0_flag a.delta_poc_s1_minus1 a.used_by_curr_pic_s1_flag) (field-eq a.num_positive_pics b.num_positive_pics p7.1)
    ∙ ap (λ x. short_set_of b.inter_ref_pic_set_prediction_flag b.delta_idx_minus1 b.delta_rps_sign b.abs_delta_rps_minus1 b.used_by_curr_pic_flag b.use_delta_flag b.num_negative_pics b.num_positive_pics x a.used_by_curr_pic_s0_flag a.delta_poc_s1_minus1 a.used_by_curr_pic_s1_flag) (fields-eq a.delta_poc_s0_minus1 b.delta_poc_s0_minus1 p8.1)
    ∙ ap (λ x. short_set_of b.inter_ref_pic_set_prediction_flag b.delta_idx_minus1 b.delta_rps_sign b.abs_delta_rps_minus1 b.used_by_curr_pic_flag b.use_delta_flag b.num_negative_pics b.num_positive_pics b.delta_poc_s0_minus1 x a.delta_poc_s1_minus1 a.used_by_curr_pic_s1_flag) (fields-eq a.used_by_curr_pic_s0_flag b.used_by_curr_pic_s0_flag p9.1)
    ∙ ap (λ x. short_set_of b.inter_ref_pic_set_prediction_flag b.delta_idx_minus1 b.delta_rps_sign b.abs_delta_rps_minus1 b.used_by_curr_pic_flag b.use_delta_flag b.num_negative_pics b.num_positive_pics b.delta_poc_s0_minus1 b.used_by_curr_pic_s0_flag x a.used_by_curr_pic_s1_flag) (fields-eq a.delta_poc_s1_minus1 b.delta_poc_s1_minus1 p10.1)
    ∙ ap (λ x. short_set_of b.inter_ref_pic_set_prediction_flag b.delta_idx_minus1 b.delta_rps_sign b.abs_delta_rps_minus1 b.used_by_curr_pic_flag b.use_delta_flag b.num_negative_pics b.num_positive_pics b.delta_poc_s0_minus1 b.used_by_curr_pic_s0_flag b.delta_poc_s1_minus1 x) (fields-eq a.used_by_curr_pic_s1_flag b.used_by_curr_pic_s1_flag p11.1)

long_term_of : Option ℕ → Option ℕ → Option ℕ → ℕ → Option ℕ → LongTerm
long_term_of x0 x1 x2 x3 x4 = record { lt_idx_sps = x0; poc_lsb_lt = x1; used_by_curr_pic_lt_flag = x2; delta_poc_msb_present_flag = x3; delta_poc_msb_cycle_lt = x4 }

long_term-eq : (a b : LongTerm) → same_long_term a b ≡ true → a ≡ b
unfolding same_long_term long_term_of
long_term-eq a b e =
    let s0 : Bool = same_field a.lt_idx_sps b.lt_idx_sps in
    let s1 : Bool = same_field a.poc_lsb_lt b.poc_lsb_lt in
    let s2 : Bool = same_field a.used_by_curr_pic_lt_flag b.used_by_curr_pic_lt_flag in
    let s3 : Bool = nat_eq a.delta_poc_msb_present_flag b.delta_poc_msb_present_flag in
    let s4 : Bool = same_field a.delta_poc_msb_cycle_lt b.delta_poc_msb_cycle_lt in
    let p4 = and_parts (s0 && s1 && s2 && s3) s4 e in
    let p3 = and_parts (s0 && s1 && s2) s3 p4.0 in
    let p2 = and_parts (s0 && s1) s2 p3.0 in
    let p1 = and_parts (s0) s1 p2.0 in
    ap (λ x. long_term_of x a.poc_lsb_lt a.used_by_curr_pic_lt_flag a.delta_poc_msb_present_flag a.delta_poc_msb_cycle_lt) (field-eq a.lt_idx_sps b.lt_idx_sps p1.0)
    ∙ ap (λ x. long_term_of b.lt_idx_sps x a.used_by_curr_pic_lt_flag a.delta_poc_msb_present_flag a.delta_poc_msb_cycle_lt) (field-eq a.poc_lsb_lt b.poc_lsb_lt p1.1)
    ∙ ap (λ x. long_term_of b.lt_idx_sps b.poc_lsb_lt x a.delta_poc_msb_present_flag a.delta_poc_msb_cycle_lt) (field-eq a.used_by_curr_pic_lt_flag b.used_by_curr_pic_lt_flag p2.1)
    ∙ ap (λ x. long_term_of b.lt_idx_sps b.poc_lsb_lt b.used_by_curr_pic_lt_flag x a.delta_poc_msb_cycle_lt) (eqb-true a.delta_poc_msb_present_flag b.delta_poc_msb_present_flag p3.1)
    ∙ ap (λ x. long_term_of b.lt_idx_sps b.poc_lsb_lt b.used_by_curr_pic_lt_flag b.delta_poc_msb_present_flag x) (field-eq a.delta_poc_msb_cycle_lt b.delta_poc_msb_cycle_lt p4.1)

entries-eq : (a b : Option LongTermsValue) → same_option same_long_terms a b ≡ true → long_entries a ≡ long_entries b
unfolding same_option same_long_terms
entries-eq None None e = refl
entries-eq None (Some b) e = absurd (cc)
entries-eq (Some a) None e = absurd (cc)
entries-eq (Some a) (Some b) e =
    let parts = and_parts (same_field a.num_long_term_sps b.num_long_term_sps && nat_eq a.num_long_term_pics b.num_long_term_pics) (same_list same_long_term a.entries b.entries) e in
    list-eq same_long_term long_term-eq a.entries b.entries parts.1

used-same : (ctx : SliceContextValue) (a b : Option SliceReferences) → same_option same_references a b ≡ true → num_used ctx a ≡ num_used ctx b
unfolding same_option same_references num_used
used-same ctx None None e = refl
used-same ctx None (Some b) e = absurd (cc)
used-same ctx (Some a) None e = absurd (cc)
used-same ctx (Some a) (Some b) e =
    let flags : Bool = nat_eq a.short_term_ref_pic_set_sps_flag b.short_term_ref_pic_set_sps_flag in
    let sets : Bool = same_option same_short_set a.st_ref_pic_set b.st_ref_pic_set in
    let index : Bool = same_field a.short_term_ref_pic_set_idx b.short_term_ref_pic_set_idx in
    let long : Bool = same_option same_long_terms a.long_terms b.long_terms in
    let temporal : Bool = same_field a.slice_temporal_mvp_enabled_flag b.slice_temporal_mvp_enabled_flag in
    let p4 = and_parts (flags && sets && index && long) temporal e in
    let p3 = and_parts (flags && sets && index) long p4.0 in
    let p2 = and_parts (flags && sets) index p3.0 in
    let p1 = and_parts flags sets p2.0 in
    ap₂ (λ m n. m + n)
    (ap num_short_used
    (ap₂ (λ s i. short_deltas ctx s i) (option-eq same_short_set short_set-eq a.st_ref_pic_set b.st_ref_pic_set p1.1) (field-eq a.short_term_ref_pic_set_idx b.short_term_ref_pic_set_idx p2.1)))
    (ap (num_long_used ctx) (entries-eq a.long_terms b.long_terms p3.1))

active-same : (ctx : SliceContextValue) (a b : SliceInterLayerValue) → same_inter_layer a b ≡ true
    → num_active_ref_layer_pics ctx a.inter_layer_pred_enabled_flag a.num_inter_layer_ref_pics_minus1 ≡ num_active_ref_layer_pics ctx b.inter_layer_pred_enabled_flag b.num_inter_layer_ref_pics_minus1
unfolding same_inter_layer
active-same ctx a b e =
    let enabled : Bool = same_field a.inter_layer_pred_enabled_flag b.inter_layer_pred_enabled_flag in
    let number : Bool = same_field a.num_inter_layer_ref_pics_minus1 b.num_inter_layer_ref_pics_minus1 in
    let layers : Bool = same_option same_fields a.inter_layer_pred_layer_idc b.inter_layer_pred_layer_idc in
    let p2 = and_parts (enabled && number) layers e in
    let p1 = and_parts enabled number p2.0 in
    ap₂ (num_active_ref_layer_pics ctx) (field-eq a.inter_layer_pred_enabled_flag b.inter_layer_pred_enabled_flag p1.0) (field-eq a.num_inter_layer_ref_pics_minus1 b.num_inter_layer_ref_pics_minus1 p1.1)

picture-same : (ctx : SliceContextValue) (a b : SlicePictureValue) → same_picture a b ≡ true → num_used ctx a.references ≡ num_used ctx b.references
unfolding same_picture
picture-same ctx a b e =
    let discardable : Bool = same_field a.discardable_flag b.discardable_flag in
    let output : Bool = same_field a.pic_output_flag b.pic_output_flag in
    let lsb : Bool = same_field a.slice_pic_order_cnt_lsb b.slice_pic_order_cnt_lsb in
    let references : Bool = same_option same_references a.references b.references in
    used-same ctx a.references b.references (and_parts (discardable && output && lsb) references e).1

-- NumPicTotalCurr of headers that agree
pub total-same : (ctx : SliceContextValue) (a b : SliceFull) → same_full a b ≡ true → num_pic_total_curr ctx a.picture a.inter_layer ≡ num_pic_total_curr ctx b.picture b.inter_layer
unfolding same_full num_pic_total_curr
total-same ctx a b e =
    let parts = and_parts (same_picture a.picture b.picture) (same_inter_layer a.inter_layer b.inter_layer) e in
    ap₂ (λ m n. m + n) (picture-same ctx a.picture b.picture parts.0) (active-same ctx a.inter_layer b.inter_layer parts.1)
