-- What a valid header says of the numbers that are derived from it.
use Rattle.std.proofs.Common.{◌≡◌, ℕ, suc, ◌+◌, ◌<◌, ◌≤◌, Bool, true, false, not, ◌||◌, List, [], ◌∷◌, length, Option, Some, None, refl, arith}
use Rattle.std.specs.Prelude.{if◌then◌else◌, nat_eq}
use Rattle.std.specs.List.{All}
use Rattle.std.specs.Option.{IfSome}
use Rattle.std.proofs.lemmas.List.Elements.{All-head, All-tail, All-weaker}
use Rattle.std.proofs.lemmas.Bool.{ltb-true}
use Rattle.mv_syntax.specs.Table.{Table, Valid, u, when}
use Rattle.mv_syntax.specs.Words.{◌!◌∶◌, is_set, or_zero, coded_set}
use Rattle.mv_rules.specs.declared.rule.Rule.TheVariants.{SliceSyntax}
use Rattle.mv_fields.specs.Widths.{clog2}
use Rattle.mv_slice.specs.declared.picture.SliceReferences.{SliceReferences}
use Rattle.mv_slice.specs.Context.{SliceContextValue, Fits, Rises}
use Rattle.mv_slice.specs.LongTerms.{long_terms}
use Rattle.mv_slice.specs.Picture.{SlicePictureValue, own_set, references, picture}
use Rattle.mv_slice.specs.Layers.{num_active_ref_layer_pics}
use Rattle.mv_slice.specs.InterLayer.{SliceInterLayerValue, is_bad_number, inter_layer}
use Rattle.mv_slice.specs.declared.slice.SliceFull.{SliceFull}
use Rattle.mv_slice.specs.declared.slice.SliceHead.{SliceHead}
use Rattle.mv_slice.specs.Slice.{full, slice_fields, slice_header}

-- ---- the parts that are coded are valid
when_coded : {A : Type 0} (c : Bool) (t : Table A) (o : Option A) → Valid (when c t) o → IfSome o (λ v. Valid t v)
when_coded c t (Some v) h = h.1
when_coded c t None h = tt

pub own_valid : (ctx : SliceContextValue) (v : SliceReferences) → Valid (references ctx) v → IfSome v.st_ref_pic_set (λ set. Valid (own_set ctx) set)
unfolding references
own_valid ctx v h = when_coded _ (own_set ctx) v.st_ref_pic_set h.0.1.0

pub long_valid : (ctx : SliceContextValue) (v : SliceReferences) → Valid (references ctx) v → IfSome v.long_terms (λ some. Valid (long_terms ctx) some)
unfolding references
long_valid ctx v h = when_coded _ (long_terms ctx) v.long_terms h.0.1.1.1.0

pub references_valid : (ctx : SliceContextValue) (nal_unit_type : ℕ) (v : SlicePictureValue) → Valid (picture ctx nal_unit_type) v
    → IfSome v.references (λ some. Valid (references ctx) some)
unfolding picture
references_valid ctx nal_unit_type v h = when_coded _ (references ctx) v.references h.0.1.1.1.1.1.1

-- ---- the active layers are at most 62
-- numbers that rise from a to below d are at most d less a
rising_few : (a d : ℕ) (ns : List ℕ) → a ≤ d → All (λ n. a ≤ n) ns → Rises ns → All (λ n. n < d) ns → a + length ns ≤ d
rising_few a d [] h from rise below = omega arith
rising_few a d (n ∷ more) h from rise below =
    let first : a ≤ n = All-head (λ m. a ≤ m) n more from in
    let less : n < d = All-head (λ m. m < d) n more below in
    let rest : suc n + length more ≤ d = rising_few (suc n) d more (omega arith) (All-weaker (λ m. n < m) (λ m. suc n ≤ m) (λ m k. omega arith) more rise.0) rise.1 (All-tail (λ m. m < d) n more below) in
    omega arith

pub eligible_few : (ctx : SliceContextValue) → Fits ctx → length ctx.eligible ≤ ctx.directs
eligible_few ctx h =
    omega
    (arith, rising_few 0 ctx.directs ctx.eligible (omega arith) (All-weaker (λ n. n < ctx.directs) (λ n. 0 ≤ n) (λ n k. omega arith) ctx.eligible h.eligible_below) h.eligible_rise h.eligible_below)

chosen_few : (a b c d : Bool) (e n : ℕ) → e ≤ 62 → n ≤ 62 → (if a then 0 else (if b then e else (if c then 0 else (if d then 1 else n)))) ≤ 62
chosen_few true b c d e n h k = omega arith
chosen_few false true c d e n h k = h
chosen_few false false true d e n h k = omega arith
chosen_few false false false true e n h k = omega arith
chosen_few false false false false e n h k = k

first_false : (a b : Bool) → (a || b) ≡ false → a ≡ false
first_false true b h = h
first_false false b h = refl

not_false : (b : Bool) → not b ≡ false → b ≡ true
not_false true h = refl
not_false false h = absurd (cc)

pub number_few : (ctx : SliceContextValue) (c : Bool) (o : Option ℕ) → Fits ctx → Valid (when c (u (clog2 ctx.directs) ! SliceSyntax ∶ is_bad_number ctx)) o → or_zero o + 1 ≤ 62
number_few ctx c None fits h = omega arith
number_few ctx c (Some n) fits h = omega (arith, ltb-true n ctx.directs (not_false _ (first_false _ _ h.1.1)), fits.directs)

pub active_most : (ctx : SliceContextValue) (enabled coded : Option ℕ) → Fits ctx → or_zero coded + 1 ≤ 62 → num_active_ref_layer_pics ctx enabled coded ≤ 62
unfolding num_active_ref_layer_pics
active_most ctx enabled coded fits few =
    chosen_few (nat_eq ctx.layer 0 || nat_eq (length ctx.eligible) 0) (is_set ctx.default_ref_layers_active_flag) (not (coded_set enabled))
    (is_set ctx.max_one_active_ref_layer_flag || nat_eq ctx.directs 1) (length ctx.eligible) (or_zero coded + 1) (omega (arith, eligible_few ctx fits, fits.directs)) few

pub active_few : (ctx : SliceContextValue) (v : SliceInterLayerValue) → Fits ctx → Valid (inter_layer ctx) v
    → num_active_ref_layer_pics ctx v.inter_layer_pred_enabled_flag v.num_inter_layer_ref_pics_minus1 ≤ 62
unfolding inter_layer
active_few ctx v fits h =
    active_most ctx v.inter_layer_pred_enabled_flag v.num_inter_layer_ref_pics_minus1 fits (number_few ctx _ v.num_inter_layer_ref_pics_minus1 fits h.0.1.0)

-- ---- the parts of a header
parts : (ctx : SliceContextValue) (nal_unit_type : ℕ) (o : Option SliceFull) → IfSome o (λ part. Valid (full ctx nal_unit_type) part)
    → IfSome o (λ part. Valid (picture ctx nal_unit_type) part.picture × Valid (inter_layer ctx) part.inter_layer)
unfolding full
parts ctx nal_unit_type (Some part) h = (h.0.0, h.0.1.0)
parts ctx nal_unit_type None h = tt

pub full_parts : (ctx : SliceContextValue) (nal_unit_type : ℕ) (v : SliceHead) → Valid (slice_header ctx nal_unit_type) v
    → IfSome v.full (λ part. Valid (picture ctx nal_unit_type) part.picture × Valid (inter_layer ctx) part.inter_layer)
unfolding slice_header slice_fields
full_parts ctx nal_unit_type v h = parts ctx nal_unit_type v.full (when_coded _ (full ctx nal_unit_type) v.full h.0.1.1.0)
