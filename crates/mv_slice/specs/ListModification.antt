-- ref_pic_lists_modification (7.3.6.2): which pictures stand in the reference picture lists, and where.
use Rattle.std.specs.Prelude.{ℕ, Bool, ◌&&◌, List, Option, refl}
use Rattle.mv_syntax.specs.Table.{Table, ◌>>=◌, u, named, when, shaped}
use Rattle.mv_syntax.specs.Words.{◌▸◌, ◌>>◌, coded_set}
use Rattle.mv_syntax.specs.Loops.{us}
use Rattle.mv_fields.specs.Widths.{clog2}

-- the fields in coded order; a loop that is not coded is None
pub record ListModificationValue : Type 0 where
  pub ref_pic_list_modification_flag_l0 : Option ℕ
  pub list_entry_l0 : Option (List ℕ)
  pub ref_pic_list_modification_flag_l1 : Option ℕ
  pub list_entry_l1 : Option (List ℕ)

-- the modification of both lists, where it is present, from NumPicTotalCurr and the numbers of active entries
unfoldable pub list_modification : Bool → Bool → ℕ → ℕ → ℕ → Table ListModificationValue
list_modification present b num_pic_total_curr active_l0 active_l1 = shaped
    (λ (ref_pic_list_modification_flag_l0, (list_entry_l0, (ref_pic_list_modification_flag_l1, list_entry_l1))). record {
      ref_pic_list_modification_flag_l0 = ref_pic_list_modification_flag_l0;
      list_entry_l0 = list_entry_l0;
      ref_pic_list_modification_flag_l1 = ref_pic_list_modification_flag_l1;
      list_entry_l1 = list_entry_l1;
    })
    (λ v.
    v.ref_pic_list_modification_flag_l0
    ▸ v.list_entry_l0
    ▸ v.ref_pic_list_modification_flag_l1
    ▸ v.list_entry_l1)
    (λ _. refl)
    do
      ref_pic_list_modification_flag_l0 ← named "ref_pic_list_modification_flag_l0" (when present (u 1))
      named "list_entry_l0" (when (coded_set ref_pic_list_modification_flag_l0) (us 0 active_l0 (clog2 num_pic_total_curr)))
      ref_pic_list_modification_flag_l1 ← named "ref_pic_list_modification_flag_l1" (when (present && b) (u 1))
      named "list_entry_l1" (when (coded_set ref_pic_list_modification_flag_l1) (us 0 active_l1 (clog2 num_pic_total_curr)))
