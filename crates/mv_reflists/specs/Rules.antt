-- The rules on the reference picture lists of a segment with a full header (7.4.7.1, 7.4.7.2, F.7.4.7.2).
use Rattle.std.specs.Prelude.{ℕ, Bool, false, ◌&&◌, [], ◌++◌, Option, Some, None, option_map, nat_eq, nat_le, if◌then◌else◌}
use Rattle.std.specs.List.{list_any}
use Rattle.mv_syntax.specs.Words.{◌otherwise◌, is_set}
use Rattle.mv_rules.specs.declared.rule.Rule.{Rule}
use Rattle.mv_rules.specs.declared.rule.Rule.TheVariants.{ListEntry, NoRefs, Collocated}
use Rattle.mv_slice.specs.declared.slice.SliceFull.{SliceFull}
use Rattle.mv_slice.specs.declared.lists.SliceLists.{SliceLists}
use Rattle.mv_slice.specs.Context.{SliceContextValue}
use Rattle.mv_reflists.specs.Segment.{predicts, active_l0, active_l1, list_entry_l0, list_entry_l1}

-- ListEntry: a list_entry isn't below NumPicTotalCurr
unfoldable pub list_entry : ℕ → SliceFull → Bool
list_entry num_pic_total_curr full =
    list_any (nat_le num_pic_total_curr) ((list_entry_l0 full otherwise []) ++ (list_entry_l1 full otherwise []))

-- NoRefs: a P or B segment has NumPicTotalCurr 0
unfoldable pub no_refs : ℕ → SliceFull → Bool
no_refs num_pic_total_curr full = predicts full && nat_eq num_pic_total_curr 0

-- collocated: a coded collocated_ref_idx isn't below the active entries of its list, which is list 0 where no flag says
abbrev pub collocated_entries : SliceContextValue → SliceFull → SliceLists → ℕ
collocated_entries ctx full lists = if is_set (lists.collocated_from_l0_flag otherwise 1) then active_l0 ctx full else active_l1 ctx full

abbrev pub is_past_list : SliceContextValue → SliceFull → SliceLists → Bool
is_past_list ctx full lists = option_map (λ idx. nat_le (collocated_entries ctx full lists) idx) lists.collocated_ref_idx otherwise false

unfoldable pub collocated : SliceContextValue → SliceFull → Bool
collocated ctx full = option_map (is_past_list ctx full) full.prediction.lists otherwise false

-- the least of these rules that the segment breaks, with this NumPicTotalCurr
unfoldable pub list_rule : ℕ → SliceContextValue → SliceFull → Option Rule
list_rule num_pic_total_curr ctx full =
    if list_entry num_pic_total_curr full then Some ListEntry
    else if no_refs num_pic_total_curr full then Some NoRefs
    else if collocated ctx full then Some Collocated
    else None
