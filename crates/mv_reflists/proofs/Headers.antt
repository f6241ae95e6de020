-- What the fields of a full header say of its lists.
use Rattle.std.proofs.Common.{◌≡◌, ℕ, ◌≤◌, Bool, true, false, cond, List, length, Option, Some, None, arith}
use Rattle.std.specs.Prelude.{option_map, option_and_then}
use Rattle.std.specs.Option.{IfSome}
use Rattle.mv_syntax.specs.Words.{◌otherwise◌, or_zero, coded_set}
use Rattle.mv_slice.specs.declared.slice.SliceFull.{SliceFull}
use Rattle.mv_slice.specs.declared.lists.SliceLists.{SliceLists}
use Rattle.mv_slice.specs.Context.{SliceContextValue}
use Rattle.mv_slice.specs.Numbers.{is_b}
use Rattle.mv_slice.specs.Prediction.{num_entries}
use Rattle.mv_reflists.specs.inner.Listed.{AreAll}
use Rattle.mv_reflists.specs.Segment.{predicts, active_l0, active_l1, where_modified, list_entry_l0, list_entry_l1}

few_entries : (o : Option ℕ) (default : ℕ) → or_zero o ≤ 14 → default ≤ 14 → num_entries o default ≤ 15
few_entries None default h d = omega arith
few_entries (Some n) default h d = omega arith

-- at most 15 entries are active
pub few_l0 : (ctx : SliceContextValue) (full : SliceFull) → ctx.num_ref_idx_l0_default_active_minus1 ≤ 14
    → IfSome full.prediction.lists (λ l. or_zero l.num_ref_idx_l0_active_minus1 ≤ 14) → active_l0 ctx full ≤ 15
unfolding active_l0
few_l0 ctx full d h = go (predicts full) full.prediction.lists h
  where
    go : (b : Bool) (o : Option SliceLists) → IfSome o (λ l. or_zero l.num_ref_idx_l0_active_minus1 ≤ 14)
        → cond b (option_map (λ (l : SliceLists). num_entries l.num_ref_idx_l0_active_minus1 ctx.num_ref_idx_l0_default_active_minus1) o otherwise 0) 0 ≤ 15
    go true (Some l) h = few_entries l.num_ref_idx_l0_active_minus1 ctx.num_ref_idx_l0_default_active_minus1 h d
    go true None h = omega arith
    go false o h = omega arith

pub few_l1 : (ctx : SliceContextValue) (full : SliceFull) → ctx.num_ref_idx_l1_default_active_minus1 ≤ 14
    → IfSome full.prediction.lists (λ l. or_zero l.num_ref_idx_l1_active_minus1 ≤ 14) → active_l1 ctx full ≤ 15
unfolding active_l1
few_l1 ctx full d h = go (is_b full.picture.slice_type) full.prediction.lists h
  where
    go : (b : Bool) (o : Option SliceLists) → IfSome o (λ l. or_zero l.num_ref_idx_l1_active_minus1 ≤ 14)
        → cond b (option_map (λ (l : SliceLists). num_entries l.num_ref_idx_l1_active_minus1 ctx.num_ref_idx_l1_default_active_minus1) o otherwise 0) 0 ≤ 15
    go true (Some l) h = few_entries l.num_ref_idx_l1_active_minus1 ctx.num_ref_idx_l1_default_active_minus1 h d
    go true None h = omega arith
    go false o h = omega arith

-- as many list entries as are active
coded_entries : (has modified : Bool) (list_entry : Option (List ℕ)) (active : ℕ) → AreAll has list_entry active
    → IfSome (cond modified list_entry None) (λ entries. length entries ≡ cond has active 0)
coded_entries has false list_entry active h = tt
coded_entries has true None active h = tt
coded_entries true true (Some entries) active h = h.1
coded_entries false true (Some entries) active h = absurd (cc)

pub all_l0 : (ctx : SliceContextValue) (full : SliceFull)
    → IfSome full.prediction.lists (λ l. AreAll (predicts full) l.modification.list_entry_l0 (num_entries l.num_ref_idx_l0_active_minus1 ctx.num_ref_idx_l0_default_active_minus1))
    → IfSome (list_entry_l0 full) (λ entries. length entries ≡ active_l0 ctx full)
unfolding active_l0 list_entry_l0
all_l0 ctx full h = go full.prediction.lists h
  where
    go : (o : Option SliceLists)
        → IfSome o (λ l. AreAll (predicts full) l.modification.list_entry_l0 (num_entries l.num_ref_idx_l0_active_minus1 ctx.num_ref_idx_l0_default_active_minus1))
        → IfSome (option_and_then (λ (l : SliceLists). where_modified l.modification.ref_pic_list_modification_flag_l0 l.modification.list_entry_l0) o)
        (λ entries. length entries ≡ cond (predicts full) (option_map (λ (l : SliceLists). num_entries l.num_ref_idx_l0_active_minus1 ctx.num_ref_idx_l0_default_active_minus1) o otherwise 0) 0)
    go None h = tt
    go (Some l) h =
        coded_entries (predicts full) (coded_set l.modification.ref_pic_list_modification_flag_l0) l.modification.list_entry_l0
        (num_entries l.num_ref_idx_l0_active_minus1 ctx.num_ref_idx_l0_default_active_minus1) h

pub all_l1 : (ctx : SliceContextValue) (full : SliceFull)
    → IfSome full.prediction.lists (λ l. AreAll (is_b full.picture.slice_type) l.modification.list_entry_l1 (num_entries l.num_ref_idx_l1_active_minus1 ctx.num_ref_idx_l1_default_active_minus1))
    → IfSome (list_entry_l1 full) (λ entries. length entries ≡ active_l1 ctx full)
unfolding active_l1 list_entry_l1
all_l1 ctx full h = go full.prediction.lists h
  where
    go : (o : Option SliceLists)
        → IfSome o (λ l. AreAll (is_b full.picture.slice_type) l.modification.list_entry_l1 (num_entries l.num_ref_idx_l1_active_minus1 ctx.num_ref_idx_l1_default_active_minus1))
        → IfSome (option_and_then (λ (l : SliceLists). where_modified l.modification.ref_pic_list_modification_flag_l1 l.modification.list_entry_l1) o)
        (λ entries. length entries ≡ cond (is_b full.picture.slice_type) (option_map (λ (l : SliceLists). num_entries l.num_ref_idx_l1_active_minus1 ctx.num_ref_idx_l1_default_active_minus1) o otherwise 0) 0)
    go None h = tt
    go (Some l) h =
        coded_entries (is_b full.picture.slice_type) (coded_set l.modification.ref_pic_list_modification_flag_l1) l.modification.list_entry_l1
        (num_entries l.num_ref_idx_l1_active_minus1 ctx.num_ref_idx_l1_default_active_minus1) h
