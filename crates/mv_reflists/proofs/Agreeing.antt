-- The words on lists say the same of a segment of a stream as the definitions of pictures.
use Rattle.std.proofs.Common.{◌≡◌, ℕ, Bool, true, false, cond, ◌&&◌, ◌||◌, List, [], ◌++◌, Option, Some, None, refl, ap, ap₂, ◌∙◌}
use Rattle.std.specs.Prelude.{option_map, option_and_then, nat_eq, nat_le, if◌then◌else◌}
use Rattle.std.specs.List.{list_any}
use Rattle.std.specs.Option.{IfSome}
use Rattle.mv_syntax.specs.Words.{◌otherwise◌, is_set, coded_set}
use Rattle.mv_slice.specs.declared.slice.SliceFull.{SliceFull}
use Rattle.mv_slice.specs.declared.lists.SliceLists.{SliceLists}
use Rattle.mv_slice.specs.Context.{SliceContextValue}
use Rattle.mv_slice.specs.Numbers.{is_b, is_p}
use Rattle.mv_slice.specs.Prediction.{num_entries}
use Rattle.mv_pictures.specs.Facts.{Fact}
use Rattle.mv_pictures.specs.Judged.{kind}
use Rattle.mv_pictures.specs.Look.{Look}
use Rattle.mv_pictures.specs.Lists.{list, order0, order1, all_places, full_lists}
use Rattle.mv_pictures.specs.PictureRules as rules
use Rattle.mv_pictures.specs.SliceFields as fields
use Rattle.mv_pictures.specs.SliceFields.{full_of, num_pic_total_curr}
use Rattle.mv_pictures.specs.Terms.{Lists}
use Rattle.mv_reflists.specs.declared.sizes.Sizes.{Sizes}
use Rattle.mv_reflists.specs.Lists as own
use Rattle.mv_reflists.specs.Rules.{list_entry, no_refs, collocated}
use Rattle.mv_reflists.specs.Segment.{predicts, active_l0, active_l1, where_modified, list_entry_l0, list_entry_l1}
use Rattle.mv_reflists.specs.Sizes.{tags}
use Rattle.mv_reflists.specs.Stands.{IsSegment}
use Rattle.mv_reflists.proofs.Fields.{Listed, AreCoded, lists_listed, segment_valid}

listed : (p : Fact) (ctx : SliceContextValue) (v : SliceFull) → IsSegment p ctx v → IfSome v.prediction.lists (Listed ctx v)
listed p ctx v s = lists_listed ctx (kind p) v (segment_valid p ctx v s)

pub same_active_l0 : (p : Fact) (ctx : SliceContextValue) (v : SliceFull) → IsSegment p ctx v → fields.active_l0 p ≡ active_l0 ctx v
unfolding fields.active_l0 active_l0
same_active_l0 p ctx v s =
    ap₂
    (λ (c : Option SliceContextValue) (f : Option SliceFull). option_and_then (λ (ctx : SliceContextValue). option_map (λ (l : SliceLists). num_entries l.num_ref_idx_l0_active_minus1 ctx.num_ref_idx_l0_default_active_minus1) (option_and_then (λ (full : SliceFull). full.prediction.lists) f)) c otherwise 0)
    s.context s.header
    ∙ go (predicts v) v.prediction.lists (predicted v.prediction.lists (listed p ctx v s))
  where
    predicted : (o : Option SliceLists) → IfSome o (Listed ctx v) → IfSome o (λ l. predicts v ≡ true)
    predicted None h = tt
    predicted (Some l) h = h.predicts

    go : (b : Bool) (o : Option SliceLists) → IfSome o (λ l. b ≡ true)
        → (option_map (λ (l : SliceLists). num_entries l.num_ref_idx_l0_active_minus1 ctx.num_ref_idx_l0_default_active_minus1) o otherwise 0)
        ≡ cond b (option_map (λ (l : SliceLists). num_entries l.num_ref_idx_l0_active_minus1 ctx.num_ref_idx_l0_default_active_minus1) o otherwise 0) 0
    go true o h = refl
    go false None h = refl
    go false (Some l) h = absurd (cc)

pub same_active_l1 : (p : Fact) (ctx : SliceContextValue) (v : SliceFull) → IsSegment p ctx v → fields.active_l1 p ≡ active_l1 ctx v
unfolding fields.active_l1 active_l1
same_active_l1 p ctx v s =
    ap₂
    (λ (c : Option SliceContextValue) (f : Option SliceFull). if (option_map (λ (full : SliceFull). is_b full.picture.slice_type) f otherwise false) then (option_and_then (λ (ctx : SliceContextValue). option_map (λ (l : SliceLists). num_entries l.num_ref_idx_l1_active_minus1 ctx.num_ref_idx_l1_default_active_minus1) (option_and_then (λ (full : SliceFull). full.prediction.lists) f)) c otherwise 0) else 0)
    s.context s.header

modified_is : (flag : Option ℕ) (entries : Option (List ℕ)) (n : ℕ) → AreCoded flag entries n → entries ≡ where_modified flag entries
modified_is flag entries n h = go (coded_set flag) entries (set entries h)
  where
    set : (o : Option (List ℕ)) → AreCoded flag o n → IfSome o (λ _. coded_set flag ≡ true)
    set None h = tt
    set (Some l) h = h.0

    go : (b : Bool) (o : Option (List ℕ)) → IfSome o (λ _. b ≡ true) → o ≡ cond b o None
    go true o h = refl
    go false None h = refl
    go false (Some l) h = absurd (cc)

pub same_entry_l0 : (p : Fact) (ctx : SliceContextValue) (v : SliceFull) → IsSegment p ctx v → fields.list_entry_l0 p ≡ list_entry_l0 v
unfolding fields.list_entry_l0 list_entry_l0
same_entry_l0 p ctx v s =
    ap (λ (f : Option SliceFull). option_and_then (λ (l : SliceLists). l.modification.list_entry_l0) (option_and_then (λ (full : SliceFull). full.prediction.lists) f)) s.header
    ∙ go v.prediction.lists (listed p ctx v s)
  where
    go : (o : Option SliceLists) → IfSome o (Listed ctx v)
        → option_and_then (λ (l : SliceLists). l.modification.list_entry_l0) o
        ≡ option_and_then (λ (l : SliceLists). where_modified l.modification.ref_pic_list_modification_flag_l0 l.modification.list_entry_l0) o
    go None h = refl
    go (Some l) h = modified_is l.modification.ref_pic_list_modification_flag_l0 l.modification.list_entry_l0 _ h.entries_l0

pub same_entry_l1 : (p : Fact) (ctx : SliceContextValue) (v : SliceFull) → IsSegment p ctx v → fields.list_entry_l1 p ≡ list_entry_l1 v
unfolding fields.list_entry_l1 list_entry_l1
same_entry_l1 p ctx v s =
    ap (λ (f : Option SliceFull). option_and_then (λ (l : SliceLists). l.modification.list_entry_l1) (option_and_then (λ (full : SliceFull). full.prediction.lists) f)) s.header
    ∙ go v.prediction.lists (listed p ctx v s)
  where
    go : (o : Option SliceLists) → IfSome o (Listed ctx v)
        → option_and_then (λ (l : SliceLists). l.modification.list_entry_l1) o
        ≡ option_and_then (λ (l : SliceLists). where_modified l.modification.ref_pic_list_modification_flag_l1 l.modification.list_entry_l1) o
    go None h = refl
    go (Some l) h = modified_is l.modification.ref_pic_list_modification_flag_l1 l.modification.list_entry_l1 _ h.entries_l1

pub same_lists : (p : Fact) (ctx : SliceContextValue) (v : SliceFull) (sizes : Sizes) → IsSegment p ctx v → full_lists (tags sizes) p ≡ own.lists sizes ctx v
unfolding full_lists own.lists
same_lists p ctx v sizes s =
    ap₂ (λ a b. made a b)
    (ap₂ (λ a e. list (all_places order0 (tags sizes)) a e) (same_active_l0 p ctx v s) (same_entry_l0 p ctx v s))
    (ap₂ (λ a e. list (all_places order1 (tags sizes)) a e) (same_active_l1 p ctx v s) (same_entry_l1 p ctx v s))
  where
    made : List ℕ → List ℕ → Lists
    made a b = record { list0 = a; list1 = b }

pub same_list_entry : (l : Look) (p : Fact) (ctx : SliceContextValue) (v : SliceFull) → IsSegment p ctx v → rules.is_of_decoded l p ≡ true
    → rules.list_entry l p ≡ list_entry (num_pic_total_curr p) v
unfolding rules.list_entry list_entry
same_list_entry l p ctx v s decoded =
    ap₂ (λ a b. a && b) decoded
    (ap₂ (λ a b. list_any (nat_le (num_pic_total_curr p)) ((a otherwise []) ++ (b otherwise []))) (same_entry_l0 p ctx v s) (same_entry_l1 p ctx v s))

pub same_no_refs : (l : Look) (p : Fact) (ctx : SliceContextValue) (v : SliceFull) → IsSegment p ctx v → rules.is_of_decoded l p ≡ true
    → rules.no_refs l p ≡ no_refs (num_pic_total_curr p) v
unfolding rules.no_refs no_refs
same_no_refs l p ctx v s decoded =
    ap₂
    (λ (a : Bool) (f : Option SliceFull). a && ((option_map (λ (full : SliceFull). is_p full.picture.slice_type) f otherwise false) || (option_map (λ (full : SliceFull). is_b full.picture.slice_type) f otherwise false)) && nat_eq (num_pic_total_curr p) 0)
    decoded s.header

pub same_collocated : (l : Look) (p : Fact) (ctx : SliceContextValue) (v : SliceFull) → IsSegment p ctx v → rules.is_of_decoded l p ≡ true
    → rules.collocated l p ≡ collocated ctx v
unfolding rules.collocated collocated
same_collocated l p ctx v s decoded =
    ap₂ (λ a b. a && b) decoded
    (ap (λ (f : Option SliceFull). past (fields.active_l0 p) (fields.active_l1 p) (option_and_then (λ (full : SliceFull). full.prediction.lists) f)) s.header
    ∙ ap₂ (λ a b. past a b v.prediction.lists) (same_active_l0 p ctx v s) (same_active_l1 p ctx v s))
  where
    past : ℕ → ℕ → Option SliceLists → Bool
    past a b o =
        option_map (λ (lists : SliceLists). option_map (λ idx. nat_le (if is_set (lists.collocated_from_l0_flag otherwise 1) then a else b) idx) lists.collocated_ref_idx otherwise false) o otherwise false
