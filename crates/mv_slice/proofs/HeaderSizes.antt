-- How many bits the header of a slice segment has at most.
use Rattle.std.proofs.Common.{◌≡◌, ℕ, ◌+◌, ◌-◌, ◌*◌, ◌^◌, ◌<◌, ◌≤◌, Bool, true, false, List, [], ◌++◌, length, get_or, Option, Some, None, Ok, ap, arith, length-append}
use Rattle.std.specs.Prelude.{if◌then◌else◌, nat_eq}
use Rattle.std.specs.Option.{IfSome}
use Rattle.std.proofs.lemmas.Bool.{ltb-false}
use Rattle.mv_rules.specs.declared.rule.Rule.TheVariants.{SliceSyntax}
use Rattle.mv_syntax.specs.Table.{Table, Valid, u, ue, when, Reads, bits_of}
use Rattle.mv_syntax.specs.inner.Reader.{read}
use Rattle.mv_syntax.specs.Words.{◌!◌∶◌, over, or_zero, ◌otherwise◌, whole_bytes}
use Rattle.mv_syntax.specs.Loops.{each}
use Rattle.mv_syntax.proofs.SizeLaws.{AtMost, most_more, most_u, most_ue, most_se, most_named, most_refused, most_by_rule, most_then, most_when, most_shaped, most_items, most_items_after, most_each, most_whole}
use Rattle.mv_syntax.proofs.TableLaws.{reads-read}
use Rattle.mv_fields.specs.Widths.{clog2}
use Rattle.mv_fields.proofs.WidthLaws.{clog2_least}
use Rattle.mv_short_sets.specs.ShortSetValue.{ShortSetValue}
use Rattle.mv_short_sets.specs.declared.delta.Delta.{Delta}
use Rattle.mv_short_sets.specs.Deltas.{deltas_of_each}
use Rattle.mv_short_sets.proofs.SetSizes.{deltas_few, set_size}
use Rattle.mv_slice.specs.declared.picture.SliceReferences.{SliceReferences}
use Rattle.mv_slice.specs.Context.{SliceContextValue, Fits}
use Rattle.mv_slice.specs.Opening.{opening, address}
use Rattle.mv_slice.specs.declared.slice.SliceHead.{SliceHead}
use Rattle.mv_slice.specs.LongTerms.{LongTermsValue, long_term, entries, long_terms}
use Rattle.mv_slice.specs.Picture.{SlicePictureValue, own_set, references, picture}
use Rattle.mv_slice.specs.Layers.{num_active_ref_layer_pics}
use Rattle.mv_slice.specs.InterLayer.{SliceInterLayerValue, active_layer, active_layer_numbers, inter_layer}
use Rattle.mv_slice.specs.Derived.{short_deltas, is_long_used, num_short_used, num_long_used, long_entries, num_used}
use Rattle.mv_slice.specs.Weights.{chroma_weight, chroma_weights, entry_weights, entry_weights_of_all, list_weights, numbered_list, lists_weights, pred_weight_table}
use Rattle.mv_slice.specs.ListModification.{list_modification}
use Rattle.mv_slice.specs.Prediction.{num_entries, lists, prediction}
use Rattle.mv_slice.specs.Filters.{deblocking, filters}
use Rattle.mv_slice.specs.Ending.{ending}
use Rattle.mv_slice.specs.Slice.{num_pic_total_curr, full, slice_fields, slice_header}
use Rattle.mv_slice.proofs.Counting.{few_kept, used-few, all_args, few_entries}
use Rattle.mv_slice.proofs.Totals.{own_valid, long_valid, references_valid, number_few, active_most, active_few}

-- ---- what is known of the fields before
within : (c : Bool) (most : ℕ) (o : Option ℕ) → Valid (when c (ue ! SliceSyntax ∶ over most)) o → or_zero o ≤ most
within c most (Some n) h = ltb-false most n h.1.1
within c most None h = omega arith

-- ---- widths
clog2_most : (x most : ℕ) → x ≤ 2 ^ 32 → x ≤ 2 ^ most → clog2 x ≤ most
clog2_most x most small h = (clog2_least x small).least most h

most_clog2 : (x most : ℕ) → x ≤ 2 ^ 32 → x ≤ 2 ^ most → AtMost (u (clog2 x)) most
most_clog2 x most small h = most_more (u (clog2 x)) (clog2 x) most (clog2_most x most small h) (most_u (clog2 x))

-- ---- the parts
most_opening : (nal_unit_type : ℕ) → AtMost (opening nal_unit_type) 65
unfolding opening
most_opening nal_unit_type =
    most_shaped _ _ _ _ 65
    (most_then _ _ 1 64 (most_named _ _ 1 (most_u 1)) (λ _ _.
    most_then _ _ 1 63 (most_named _ _ 1 (most_when _ _ 1 (most_u 1))) (λ _ _. most_named _ _ 63 (most_refused _ _ _ 63 most_ue))))

most_address : (ctx : SliceContextValue) (first : Bool) → Fits ctx → AtMost (address ctx first) 23
unfolding address
most_address ctx first fits =
    most_shaped _ _ _ _ 23
    (most_then _ _ 1 22 (most_named _ _ 1 (most_when _ _ 1 (most_u 1))) (λ _ _.
    most_named _ _ 22 (most_when _ _ 22 (most_clog2 ctx.ctbs 22 (omega (arith, fits.few_ctbs)) (omega (arith, fits.few_ctbs))))))

most_long_term : (ctx : SliceContextValue) (listed i : ℕ) → Fits ctx → AtMost (long_term ctx listed i) 86
unfolding long_term
most_long_term ctx listed i fits =
    most_shaped _ _ _ _ 86
    (most_then _ _ 5 81
    (most_named _ _ 5 (most_when _ _ 5 (most_refused _ _ _ 5 (most_clog2 ctx.num_long_term_ref_pics_sps 5 (omega (arith, fits.few_long_terms)) (omega (arith, fits.few_long_terms))))))
    (λ _ _.
    most_then _ _ 16 65 (most_named _ _ 16 (most_when _ _ 16 (most_more _ ctx.lsb_bits 16 fits.few_lsb_bits (most_u ctx.lsb_bits)))) (λ _ _.
    most_then _ _ 1 64 (most_named _ _ 1 (most_when _ _ 1 (most_u 1))) (λ _ _.
    most_then _ _ 1 63 (most_named _ _ 1 (most_u 1)) (λ _ _. most_named _ _ 63 (most_when _ _ 63 most_ue))))))

most_long_terms : (ctx : SliceContextValue) → Fits ctx → AtMost (long_terms ctx) 2878
unfolding long_terms entries
most_long_terms ctx fits =
    most_shaped _ _ _ _ 2878
    (most_then _ _ 63 2815 (most_named _ _ 63 (most_when _ _ 63 (most_refused _ _ _ 63 most_ue))) (λ listed some.
    most_then _ _ 63 2752 (most_named _ _ 63 (most_refused _ _ _ 63 most_ue)) (λ coded more.
    let few : or_zero listed ≤ 16 = within _ 16 listed some in
    let others : coded ≤ 16 = ltb-false 16 coded more.1 in
    most_items 0 (or_zero listed + coded) (long_term ctx (or_zero listed)) 86 2752 (λ i. most_long_term ctx (or_zero listed) i fits) (omega arith))))

most_own : (ctx : SliceContextValue) → Fits ctx → AtMost (own_set ctx) 2336
most_own ctx fits = most_by_rule _ _ 2336 (set_size ctx.num_short_term_ref_pic_sets ctx.num_short_term_ref_pic_sets ctx.short_sets (all_args ctx fits))

most_references : (ctx : SliceContextValue) → Fits ctx → AtMost (references ctx) 5222
unfolding references
most_references ctx fits =
    most_shaped _ _ _ _ 5222
    (most_then _ _ 1 5221 (most_named _ _ 1 (most_refused _ _ _ 1 (most_u 1))) (λ _ _.
    most_then _ _ 2336 2885 (most_when _ _ 2336 (most_own ctx fits)) (λ _ _.
    most_then _ _ 6 2879
    (most_named _ _ 6 (most_when _ _ 6 (most_refused _ _ _ 6 (most_clog2 ctx.num_short_term_ref_pic_sets 6 (omega (arith, fits.few_short_sets)) (omega (arith, fits.few_short_sets))))))
    (λ _ _.
    most_then _ _ 2878 1 (most_when _ _ 2878 (most_long_terms ctx fits)) (λ _ _. most_named _ _ 1 (most_when _ _ 1 (most_u 1)))))))

most_picture : (ctx : SliceContextValue) (nal_unit_type : ℕ) → Fits ctx → AtMost (picture ctx nal_unit_type) 5309
unfolding picture
most_picture ctx nal_unit_type fits =
    most_shaped _ _ _ _ 5309
    (most_then _ _ 1 5308 (most_named _ _ 1 (most_when _ _ 1 (most_u 1))) (λ _ _.
    most_then _ _ 1 5307 (most_named _ _ 1 (most_when _ _ 1 (most_refused _ _ _ 1 (most_u 1)))) (λ _ _.
    most_then _ _ 5 5302 (most_named _ _ 5 (most_items 2 (ctx.num_extra_slice_header_bits - 2) (each (u 1)) 1 5 (most_each (u 1) 1 (most_u 1)) (omega (arith, fits.extra_bits)))) (λ _ _.
    most_then _ _ 63 5239 (most_named _ _ 63 (most_refused _ _ _ 63 most_ue)) (λ _ _.
    most_then _ _ 1 5238 (most_named _ _ 1 (most_when _ _ 1 (most_u 1))) (λ _ _.
    most_then _ _ 16 5222 (most_named _ _ 16 (most_when _ _ 16 (most_more _ ctx.lsb_bits 16 fits.few_lsb_bits (most_u ctx.lsb_bits)))) (λ _ _.
    most_when _ _ 5222 (most_references ctx fits))))))))

most_inter_layer : (ctx : SliceContextValue) → Fits ctx → AtMost (inter_layer ctx) 379
unfolding inter_layer active_layer_numbers active_layer
most_inter_layer ctx fits =
    let one : AtMost (u (clog2 ctx.directs)) 6 = most_clog2 ctx.directs 6 (omega (arith, fits.directs)) (omega (arith, fits.directs)) in
    most_shaped _ _ _ _ 379
    (most_then _ _ 1 378 (most_named _ _ 1 (most_when _ _ 1 (most_u 1))) (λ enabled _.
    most_then _ _ 6 372 (most_named _ _ 6 (most_when _ _ 6 (most_refused _ _ _ 6 one))) (λ number valid.
    let few : num_active_ref_layer_pics ctx enabled number ≤ 62 = active_most ctx enabled number fits (number_few ctx _ number fits valid) in
    most_when _ _ 372 (most_items_after 0 (num_active_ref_layer_pics ctx enabled number) (active_layer ctx) 6 372 (λ i before. most_named _ _ 6 (most_refused _ _ _ 6 one)) (omega arith)))))

-- ---- the lists
most_modification : (present b : Bool) (total l0 l1 : ℕ) → total ≤ 256 → l0 ≤ 15 → l1 ≤ 15 → AtMost (list_modification present b total l0 l1) 242
unfolding list_modification
most_modification present b total l0 l1 few some more =
    let one : AtMost (u (clog2 total)) 8 = most_clog2 total 8 (omega arith) (omega arith) in
    most_shaped _ _ _ _ 242
    (most_then _ _ 1 241 (most_named _ _ 1 (most_when _ _ 1 (most_u 1))) (λ _ _.
    most_then _ _ 120 121 (most_named _ _ 120 (most_when _ _ 120 (most_items 0 l0 (each (u (clog2 total))) 8 120 (most_each (u (clog2 total)) 8 one) (omega arith)))) (λ _ _.
    most_then _ _ 1 120 (most_named _ _ 1 (most_when _ _ 1 (most_u 1))) (λ _ _.
    most_named _ _ 120 (most_when _ _ 120 (most_items 0 l1 (each (u (clog2 total))) 8 120 (most_each (u (clog2 total)) 8 one) (omega arith)))))))

most_chroma : AtMost chroma_weights 252
unfolding chroma_weights chroma_weight
most_chroma =
    most_items 0 2 (each chroma_weight) 126 252
    (most_each chroma_weight 126 (most_shaped _ _ _ _ 126 (most_then _ _ 63 63 (most_named _ _ 63 most_se) (λ _ _. most_named _ _ 63 most_se))))
    (omega arith)

most_entry : (luma chroma : List ℕ) (i : ℕ) → AtMost (entry_weights luma chroma i) 378
unfolding entry_weights
most_entry luma chroma i =
    most_shaped _ _ _ _ 378
    (most_then _ _ 63 315 (most_named _ _ 63 (most_when _ _ 63 most_se)) (λ _ _.
    most_then _ _ 63 252 (most_named _ _ 63 (most_when _ _ 63 most_se)) (λ _ _. most_when _ _ 252 most_chroma)))

most_list : (chroma : Bool) (active : ℕ) → active ≤ 15 → AtMost (list_weights chroma active) 5700
unfolding list_weights entry_weights_of_all
most_list chroma active few =
    let flags = most_items 0 active (each (u 1)) 1 15 (most_each (u 1) 1 (most_u 1)) (omega arith) in
    most_shaped _ _ _ _ 5700
    (most_then _ _ 15 5685 (most_named _ _ 15 flags) (λ luma _.
    most_then _ _ 15 5670 (most_named _ _ 15 (most_when _ _ 15 flags)) (λ of_chroma _.
    most_items 0 active (entry_weights luma (of_chroma otherwise [])) 378 5670 (most_entry luma (of_chroma otherwise [])) (omega arith))))

either : (b : Bool) (m n : ℕ) → m ≤ 15 → n ≤ 15 → (if b then m else n) ≤ 15
either true m n h k = h
either false m n h k = k

num_lists : (b : Bool) → (if b then 2 else 1) * 5700 ≤ 11400
num_lists true = omega arith
num_lists false = omega arith

most_weights : (chroma b : Bool) (l0 l1 : ℕ) → l0 ≤ 15 → l1 ≤ 15 → AtMost (pred_weight_table chroma b l0 l1) 11526
unfolding pred_weight_table lists_weights numbered_list
most_weights chroma b l0 l1 few more =
    most_shaped _ _ _ _ 11526
    (most_then _ _ 63 11463 (most_named _ _ 63 most_ue) (λ _ _.
    most_then _ _ 63 11400 (most_named _ _ 63 (most_when _ _ 63 most_se)) (λ _ _.
    most_items 0 (if b then 2 else 1) (numbered_list chroma l0 l1) 5700 11400
    (λ i. most_list chroma (if nat_eq i 0 then l0 else l1) (either (nat_eq i 0) l0 l1 few more)) (num_lists b))))

few_active : (coded : Option ℕ) (default : ℕ) → or_zero coded ≤ 14 → default ≤ 14 → num_entries coded default ≤ 15
few_active (Some n) default h k = omega arith
few_active None default h k = omega arith

most_lists : (ctx : SliceContextValue) (slice_type total : ℕ) (temporal_mvp : Bool) → Fits ctx → total ≤ 256 → AtMost (lists ctx slice_type total temporal_mvp) 12024
unfolding lists
most_lists ctx slice_type total temporal_mvp fits few =
    most_shaped _ _ _ _ 12024
    (most_then _ _ 1 12023 (most_named _ _ 1 (most_u 1)) (λ _ _.
    most_then _ _ 63 11960 (most_named _ _ 63 (most_when _ _ 63 (most_refused _ _ _ 63 most_ue))) (λ coded_l0 some.
    most_then _ _ 63 11897 (most_named _ _ 63 (most_when _ _ 63 (most_refused _ _ _ 63 most_ue))) (λ coded_l1 more.
    let l0 : num_entries coded_l0 ctx.num_ref_idx_l0_default_active_minus1 ≤ 15 = few_active coded_l0 _ (within _ 14 coded_l0 some) fits.few_l0 in
    let l1 : num_entries coded_l1 ctx.num_ref_idx_l1_default_active_minus1 ≤ 15 = few_active coded_l1 _ (within _ 14 coded_l1 more) fits.few_l1 in
    most_then _ _ 242 11655 (most_modification _ _ total _ _ few l0 l1) (λ _ _.
    most_then _ _ 1 11654 (most_named _ _ 1 (most_when _ _ 1 (most_u 1))) (λ _ _.
    most_then _ _ 1 11653 (most_named _ _ 1 (most_when _ _ 1 (most_u 1))) (λ _ _.
    most_then _ _ 1 11652 (most_named _ _ 1 (most_when _ _ 1 (most_u 1))) (λ _ _.
    most_then _ _ 63 11589 (most_named _ _ 63 (most_when _ _ 63 most_ue)) (λ _ _.
    most_then _ _ 11526 63 (most_when _ _ 11526 (most_weights ctx.chroma _ _ _ l0 l1)) (λ _ _. most_named _ _ 63 most_ue))))))))))

most_prediction : (ctx : SliceContextValue) (slice_type total : ℕ) (temporal_mvp : Bool) → Fits ctx → total ≤ 256 → AtMost (prediction ctx slice_type total temporal_mvp) 12026
unfolding prediction
most_prediction ctx slice_type total temporal_mvp fits few =
    most_shaped _ _ _ _ 12026
    (most_then _ _ 1 12025 (most_named _ _ 1 (most_when _ _ 1 (most_u 1))) (λ _ _.
    most_then _ _ 1 12024 (most_named _ _ 1 (most_when _ _ 1 (most_u 1))) (λ _ _. most_when _ _ 12024 (most_lists ctx slice_type total temporal_mvp fits few))))

most_deblocking : (ctx : SliceContextValue) → AtMost (deblocking ctx) 128
unfolding deblocking
most_deblocking ctx =
    most_shaped _ _ _ _ 128
    (most_then _ _ 1 127 (most_named _ _ 1 (most_when _ _ 1 (most_u 1))) (λ _ _.
    most_then _ _ 1 126 (most_named _ _ 1 (most_when _ _ 1 (most_u 1))) (λ _ _.
    most_then _ _ 63 63 (most_named _ _ 63 (most_when _ _ 63 most_se)) (λ _ _. most_named _ _ 63 (most_when _ _ 63 most_se)))))

most_filters : (ctx : SliceContextValue) (sao : Bool) → AtMost (filters ctx sao) 318
unfolding filters
most_filters ctx sao =
    most_shaped _ _ _ _ 318
    (most_then _ _ 63 255 (most_named _ _ 63 most_se) (λ _ _.
    most_then _ _ 63 192 (most_named _ _ 63 (most_when _ _ 63 most_se)) (λ _ _.
    most_then _ _ 63 129 (most_named _ _ 63 (most_when _ _ 63 most_se)) (λ _ _.
    most_then _ _ 128 1 (most_deblocking ctx) (λ _ _. most_named _ _ 1 (most_when _ _ 1 (most_u 1)))))))

most_ending : (ctx : SliceContextValue) → AtMost (ending ctx) 2099357
unfolding ending
most_ending ctx =
    most_shaped _ _ _ _ 2099357
    (most_then _ _ 63 2099294 (most_named _ _ 63 (most_when _ _ 63 (most_refused _ _ _ 63 most_ue))) (λ points some.
    most_then _ _ 63 2099231 (most_named _ _ 63 (most_when _ _ 63 (most_refused _ _ _ 63 most_ue))) (λ width narrow.
    let few : or_zero points ≤ 65535 = within _ 65535 points some in
    let bits : or_zero width ≤ 31 = within _ 31 width narrow in
    most_then _ _ 2097120 2111
    (most_named _ _ 2097120
    (most_items 0 (or_zero points) (each (u (or_zero width + 1))) 32 2097120
    (most_each (u (or_zero width + 1)) 32 (most_more (u (or_zero width + 1)) (or_zero width + 1) 32 (omega arith) (most_u (or_zero width + 1)))) (omega arith)))
    (λ _ _.
    most_then _ _ 63 2048 (most_named _ _ 63 (most_when _ _ 63 (most_refused _ _ _ 63 most_ue))) (λ long short.
    let bytes : or_zero long ≤ 256 = within _ 256 long short in
    most_named _ _ 2048 (most_items 0 (or_zero long) (each (u 8)) 8 2048 (most_each (u 8) 8 (most_u 8)) (omega arith)))))))

-- ---- NumPicTotalCurr
short_few : (ctx : SliceContextValue) (coded : Option ShortSetValue) (idx : Option ℕ) → Fits ctx → IfSome coded (λ set. Valid (own_set ctx) set)
    → num_short_used (short_deltas ctx coded idx) ≤ 16
unfolding short_deltas num_short_used
short_few ctx (Some set) idx fits h = used-few ctx.num_short_term_ref_pic_sets ctx.num_short_term_ref_pic_sets (deltas_of_each ctx.short_sets) set h
short_few ctx None idx fits h =
    let some = deltas_few ctx.num_short_term_ref_pic_sets ctx.num_short_term_ref_pic_sets ctx.short_sets (or_zero idx) (all_args ctx fits) in
    omega (arith, some, few_kept (λ (one : Delta). one.used) (get_or (deltas_of_each ctx.short_sets) (or_zero idx) []))

long_few : (ctx : SliceContextValue) (coded : Option LongTermsValue) → IfSome coded (λ some. Valid (long_terms ctx) some) → num_long_used ctx (long_entries coded) ≤ 32
unfolding num_long_used
long_few ctx (Some some) h = omega (arith, few_kept (is_long_used ctx) some.entries, few_entries ctx some h)
long_few ctx None h = omega arith

used_few : (ctx : SliceContextValue) (coded : Option SliceReferences) → Fits ctx → IfSome coded (λ v. Valid (references ctx) v) → num_used ctx coded ≤ 48
unfolding num_used
used_few ctx (Some v) fits h =
    omega (arith, short_few ctx v.st_ref_pic_set v.short_term_ref_pic_set_idx fits (own_valid ctx v h), long_few ctx v.long_terms (long_valid ctx v h))
used_few ctx None fits h = omega arith

pub total_few : (ctx : SliceContextValue) (nal_unit_type : ℕ) (p : SlicePictureValue) (i : SliceInterLayerValue) → Fits ctx → Valid (picture ctx nal_unit_type) p
    → Valid (inter_layer ctx) i → num_pic_total_curr ctx p i ≤ 110
unfolding num_pic_total_curr
total_few ctx nal_unit_type p i fits h k = omega (arith, used_few ctx p.references fits (references_valid ctx nal_unit_type p h), active_few ctx i fits k)

-- ---- the whole
most_full : (ctx : SliceContextValue) (nal_unit_type : ℕ) → Fits ctx → AtMost (full ctx nal_unit_type) 18032
unfolding full
most_full ctx nal_unit_type fits =
    most_shaped _ _ _ _ 18032
    (most_then _ _ 5309 12723 (most_picture ctx nal_unit_type fits) (λ p of_picture.
    most_then _ _ 379 12344 (most_inter_layer ctx fits) (λ i of_layers.
    let few : num_pic_total_curr ctx p i ≤ 256 = omega (arith, total_few ctx nal_unit_type p i fits of_picture of_layers) in
    most_then _ _ 12026 318 (most_prediction ctx p.slice_type (num_pic_total_curr ctx p i) _ fits few) (λ q _. most_filters ctx _))))

pub most_slice_fields : (ctx : SliceContextValue) (nal_unit_type : ℕ) → Fits ctx → AtMost (slice_fields ctx nal_unit_type) 2117477
unfolding slice_fields
most_slice_fields ctx nal_unit_type fits =
    most_shaped _ _ _ _ 2117477
    (most_then _ _ 65 2117412 (most_opening nal_unit_type) (λ o _.
    most_then _ _ 23 2117389 (most_address ctx _ fits) (λ a _.
    most_then _ _ 18032 2099357 (most_when _ _ 18032 (most_full ctx nal_unit_type fits)) (λ _ _. most_ending ctx))))

-- what reads takes no more bits
takes : {A : Type 0} (t : Table A) (n : ℕ) (b : List Bool) (v : A) (rest : List Bool) → AtMost t n → Valid t v → b ≡ bits_of t v ++ rest → length b ≤ length rest + n
takes t n b v rest h valid e =
    let own = h.bits v valid in
    omega (arith, ap length e, length-append (bits_of t v) rest)

pub fields_short : (ctx : SliceContextValue) (nal_unit_type : ℕ) (b : List Bool) (v : SliceHead) (rest : List Bool) → Fits ctx → read (slice_fields ctx nal_unit_type) b ≡ Ok (v, rest)
    → length b ≤ length rest + 2117477
fields_short ctx nal_unit_type b v rest fits e =
    let reads = reads-read (slice_fields ctx nal_unit_type) b v rest e in
    takes (slice_fields ctx nal_unit_type) 2117477 b v rest (most_slice_fields ctx nal_unit_type fits) reads.0 reads.1

pub header_short : (ctx : SliceContextValue) (nal_unit_type : ℕ) (b : List Bool) (v : SliceHead) (rest : List Bool) → Fits ctx → Reads (slice_header ctx nal_unit_type) b v rest
    → length b ≤ length rest + 8 * 264686
unfolding slice_header
header_short ctx nal_unit_type b v rest fits h =
    let all : length b ≤ length rest + 2117485 =
    takes (whole_bytes (slice_fields ctx nal_unit_type)) 2117485 b v rest (most_whole _ 2117477 (most_slice_fields ctx nal_unit_type fits)) h.valid h.bits in
    omega arith
