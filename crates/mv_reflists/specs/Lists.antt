-- The reference picture lists of a segment with a full header, from how many references its picture has of each part
-- (8.3.4, F.8.3.4).
use Rattle.std.specs.Prelude.{ℕ, List}
use Rattle.mv_slice.specs.declared.slice.SliceFull.{SliceFull}
use Rattle.mv_slice.specs.Context.{SliceContextValue}
use Rattle.mv_pictures.specs.Terms.{Lists}
use Rattle.mv_pictures.specs.Lists.{order0, order1, all_places, list}
use Rattle.mv_reflists.specs.declared.sizes.Sizes.{Sizes}
use Rattle.mv_reflists.specs.Sizes.{tags}
use Rattle.mv_reflists.specs.Segment.{active_l0, active_l1, list_entry_l0, list_entry_l1}

-- the initial lists, before they are repeated
abbrev pub initial0 : Sizes → List ℕ
initial0 sizes = all_places order0 (tags sizes)

abbrev pub initial1 : Sizes → List ℕ
initial1 sizes = all_places order1 (tags sizes)

unfoldable pub lists : Sizes → SliceContextValue → SliceFull → Lists
lists sizes ctx full = record {
  list0 = list (initial0 sizes) (active_l0 ctx full) (list_entry_l0 full);
  list1 = list (initial1 sizes) (active_l1 ctx full) (list_entry_l1 full);
}
