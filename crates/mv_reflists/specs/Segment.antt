-- What reference picture lists take from a full slice segment header (7.4.7.1, 7.4.7.2).
use Rattle.std.specs.Prelude.{ℕ, Bool, ◌||◌, List, Option, None, option_map, option_and_then, if◌then◌else◌}
use Rattle.mv_syntax.specs.Words.{◌otherwise◌, coded_set}
use Rattle.mv_slice.specs.declared.slice.SliceFull.{SliceFull}
use Rattle.mv_slice.specs.declared.lists.SliceLists.{SliceLists}
use Rattle.mv_slice.specs.Context.{SliceContextValue}
use Rattle.mv_slice.specs.Numbers.{is_b, is_p}
use Rattle.mv_slice.specs.Prediction.{num_entries}

-- a P or B segment
abbrev pub predicts : SliceFull → Bool
predicts full = is_p full.picture.slice_type || is_b full.picture.slice_type

-- how many entries of list 0 and of list 1 are active: none of either in an I segment, none of list 1 in a P segment
unfoldable pub active_l0 : SliceContextValue → SliceFull → ℕ
active_l0 ctx full =
    if predicts full
    then (option_map (λ (l : SliceLists). num_entries l.num_ref_idx_l0_active_minus1 ctx.num_ref_idx_l0_default_active_minus1) full.prediction.lists otherwise 0)
    else 0

unfoldable pub active_l1 : SliceContextValue → SliceFull → ℕ
active_l1 ctx full =
    if is_b full.picture.slice_type
    then (option_map (λ (l : SliceLists). num_entries l.num_ref_idx_l1_active_minus1 ctx.num_ref_idx_l1_default_active_minus1) full.prediction.lists otherwise 0)
    else 0

-- the list entries where the flag of the modification is 1
abbrev pub where_modified : Option ℕ → Option (List ℕ) → Option (List ℕ)
where_modified flag list_entry = if coded_set flag then list_entry else None

-- list_entry_l0 where ref_pic_list_modification_flag_l0 is 1, and list_entry_l1 where ref_pic_list_modification_flag_l1 is
unfoldable pub list_entry_l0 : SliceFull → Option (List ℕ)
list_entry_l0 full = option_and_then (λ (l : SliceLists). where_modified l.modification.ref_pic_list_modification_flag_l0 l.modification.list_entry_l0) full.prediction.lists

unfoldable pub list_entry_l1 : SliceFull → Option (List ℕ)
list_entry_l1 full = option_and_then (λ (l : SliceLists). where_modified l.modification.ref_pic_list_modification_flag_l1 l.modification.list_entry_l1) full.prediction.lists
