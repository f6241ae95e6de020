-- The rules that cut a slice segment header: SliceSyntax and CrossLayerBla alone.
use Rattle.std.proofs.Common.{◌≡◌, ℕ, zero, suc, nat_eq, Bool, true, ◌||◌, List, [], ◌∷◌, ◌++◌, refl, ap, ◌∙◌, inl, inr}
use Rattle.mv_syntax.specs.Table.{Cut, EachCut, Reads, Table, ◌>>=◌, by_rule, checked, named, padded, refused, repeat, se, shaped, u, ue, when}
use Rattle.mv_syntax.specs.Loops.{each, items, items_after}
use Rattle.mv_slice.specs.Context.{SliceContextValue}
use Rattle.mv_slice.specs.Ending.{ending}
use Rattle.mv_slice.specs.Filters.{deblocking, filters}
use Rattle.mv_slice.specs.InterLayer.{active_layer, active_layer_numbers, inter_layer}
use Rattle.mv_slice.specs.ListModification.{list_modification}
use Rattle.mv_slice.specs.LongTerms.{entries, long_term, long_terms}
use Rattle.mv_slice.specs.Opening.{address, opening}
use Rattle.mv_slice.specs.Picture.{picture, references}
use Rattle.mv_slice.specs.Prediction.{lists, prediction}
use Rattle.mv_slice.specs.Slice.{full, slice_fields, slice_header}
use Rattle.mv_slice.specs.Weights.{chroma_weight, chroma_weights, entry_weights, entry_weights_of_all, list_weights, lists_weights, numbered_list, pred_weight_table}

-- ---- the rules by which a table is cut
-- one of the two
abbrev pub is_slice_number : ℕ → Bool
is_slice_number r = nat_eq r 52 || nat_eq r 53

-- each rule of a table is one of them
abbrev Only : {A : Type 0} → Table A → Type 0
Only (u n) = Unit {0}
Only ue = Unit {0}
Only se = Unit {0}
Only (named name t) = Only t
Only (refused r bad t) = (is_slice_number r ≡ true) × Only t
Only (checked r bad t) = (is_slice_number r ≡ true) × Only t
Only (◌>>=◌ {A} t f) = Only t × ((v : A) → Only (f v))
Only (when c t) = Only t
Only (repeat {A} index n t) = (before : List A) → Only (t before)
Only (by_rule r t) = is_slice_number r ≡ true
Only (padded pad t) = Only t
Only (shaped to from same t) = Only t

each-only : {A : Type 0} (cut : List A → List Bool → Type 0) (reads : List A → List Bool → A → List Bool → Type 0) (P : Type 0) → ((before : List A) (b : List Bool) → cut before b → P)
    → (n : ℕ) (before : List A) (b : List Bool) → EachCut cut reads n before b → P
each-only cut reads P one zero before b h = absurd h
each-only cut reads P one (suc n) before b (inl h) = one before b h
each-only cut reads P one (suc n) before b (inr (v, rest, there, h)) = each-only cut reads P one n (before ++ v ∷ []) rest h

cut-only : {A : Type 0} (t : Table A) → Only t → (b : List Bool) (r : ℕ) → Cut t b r → is_slice_number r ≡ true
cut-only (u n) only b r h = absurd h
cut-only ue only b r h = absurd h
cut-only se only b r h = absurd h
cut-only (named name t) only b r h = cut-only t only b r h
cut-only (refused s bad t) only b r (inl h) = cut-only t only.1 b r h
cut-only (refused s bad t) only b r (inr (v, rest, there, broken, e)) = ap is_slice_number e ∙ only.0
cut-only (checked s bad t) only b r (inl h) = ap is_slice_number h.1 ∙ only.0
cut-only (checked s bad t) only b r (inr h) = cut-only t only.1 b r h.1
cut-only (t >>= f) only b r (inl h) = cut-only t only.0 b r h
cut-only (t >>= f) only b r (inr (v, rest, there, h)) = cut-only (f v) (only.1 v) rest r h
cut-only (when c t) only b r h = cut-only t only b r h.1
cut-only (repeat index n t) only b r h =
    each-only (λ before c. Cut (t before) c r) (λ before c v rest. Reads (t before) c v rest) (is_slice_number r ≡ true) (λ before c cut. cut-only (t before) (only before) c r cut) n [] b h
cut-only (by_rule s t) only b r h = ap is_slice_number h.0 ∙ only
cut-only (padded pad t) only b r h = cut-only t only b r h
cut-only (shaped to from same t) only b r h = cut-only t only b r h

-- ---- the parts
only_opening : (nal_unit_type : ℕ) → Only (opening nal_unit_type)
unfolding opening
only_opening nal_unit_type = (tt, λ _. (tt, λ _. (refl, tt)))

only_address : (ctx : SliceContextValue) (first : Bool) → Only (address ctx first)
unfolding address
only_address ctx first = (tt, λ _. tt)

only_long_terms : (ctx : SliceContextValue) → Only (long_terms ctx)
unfolding long_terms entries items long_term
only_long_terms ctx = ((refl, tt), λ _. ((refl, tt), λ _ _. ((refl, tt), λ _. (tt, λ _. (tt, λ _. (tt, λ _. tt))))))

only_references : (ctx : SliceContextValue) → Only (references ctx)
unfolding references
only_references ctx = ((refl, tt), λ _. (refl, λ _. ((refl, tt), λ _. (only_long_terms ctx, λ _. tt))))

only_picture : (ctx : SliceContextValue) (nal_unit_type : ℕ) → Only (picture ctx nal_unit_type)
unfolding picture items each
only_picture ctx nal_unit_type = (tt, λ _. ((refl, tt), λ _. (λ _. tt, λ _. ((refl, tt), λ _. (tt, λ _. (tt, λ _. only_references ctx))))))

only_inter_layer : (ctx : SliceContextValue) → Only (inter_layer ctx)
unfolding inter_layer active_layer_numbers items_after active_layer
only_inter_layer ctx = (tt, λ _. ((refl, tt), λ _ _. (refl, tt)))

only_modification : (present b : Bool) (total active_l0 active_l1 : ℕ) → Only (list_modification present b total active_l0 active_l1)
unfolding list_modification items each
only_modification present b total active_l0 active_l1 = (tt, λ _. (λ _. tt, λ _. (tt, λ _ _. tt)))

only_entry : (luma chroma : List ℕ) (i : ℕ) → Only (entry_weights luma chroma i)
unfolding entry_weights chroma_weights chroma_weight items each
only_entry luma chroma i = (tt, λ _. (tt, λ _ _. (tt, λ _. tt)))

only_list : (chroma : Bool) (active : ℕ) → Only (list_weights chroma active)
unfolding list_weights entry_weights_of_all items each
only_list chroma active = (λ _. tt, λ luma. (λ _. tt, λ colour before. only_entry _ _ _))

only_weights : (chroma b : Bool) (active_l0 active_l1 : ℕ) → Only (pred_weight_table chroma b active_l0 active_l1)
unfolding pred_weight_table lists_weights numbered_list items
only_weights chroma b active_l0 active_l1 = (tt, λ _. (tt, λ _ before. only_list chroma _))

only_lists : (ctx : SliceContextValue) (slice_type total : ℕ) (temporal_mvp : Bool) → Only (lists ctx slice_type total temporal_mvp)
unfolding lists
only_lists ctx slice_type total temporal_mvp =
    (tt, λ _. ((refl, tt), λ _. ((refl, tt), λ _. (only_modification _ _ _ _ _, λ _. (tt, λ _. (tt, λ _. (tt, λ _. (tt, λ _. (only_weights _ _ _ _, λ _. tt)))))))))

only_prediction : (ctx : SliceContextValue) (slice_type total : ℕ) (temporal_mvp : Bool) → Only (prediction ctx slice_type total temporal_mvp)
unfolding prediction
only_prediction ctx slice_type total temporal_mvp = (tt, λ _. (tt, λ _. only_lists ctx slice_type total temporal_mvp))

only_filters : (ctx : SliceContextValue) (sao : Bool) → Only (filters ctx sao)
unfolding filters deblocking
only_filters ctx sao = (tt, λ _. (tt, λ _. (tt, λ _. ((tt, λ _. (tt, λ _. (tt, λ _. tt))), λ _. tt))))

only_ending : (ctx : SliceContextValue) → Only (ending ctx)
unfolding ending items each
only_ending ctx = ((refl, tt), λ _. ((refl, tt), λ _. (λ _. tt, λ _. ((refl, tt), λ _ _. tt))))

only_full : (ctx : SliceContextValue) (nal_unit_type : ℕ) → Only (full ctx nal_unit_type)
unfolding full
only_full ctx nal_unit_type = (only_picture ctx nal_unit_type, λ _. (only_inter_layer ctx, λ _. (only_prediction ctx _ _ _, λ _. only_filters ctx _)))

only_header : (ctx : SliceContextValue) (nal_unit_type : ℕ) → Only (slice_header ctx nal_unit_type)
unfolding slice_header slice_fields
only_header ctx nal_unit_type = (only_opening nal_unit_type, λ _. (only_address ctx _, λ _. (only_full ctx nal_unit_type, λ _. only_ending ctx)))

pub header-only : (ctx : SliceContextValue) (nal_unit_type : ℕ) (b : List Bool) (r : ℕ) → Cut (slice_header ctx nal_unit_type) b r → is_slice_number r ≡ true
header-only ctx nal_unit_type b r h = cut-only (slice_header ctx nal_unit_type) (only_header ctx nal_unit_type) b r h
