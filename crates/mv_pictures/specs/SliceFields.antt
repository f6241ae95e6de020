-- What later stages ask of a slice segment's header: fields, and the numbers that follow from them (7.4.7.1, F.7.4.7.1).
-- Where there is no header, or a dependent segment has no such field, the value is the one that is stated.
use Rattle.std.specs.Prelude.{ℕ, ◌^◌, ℤ, Bool, false, true, ◌||◌, List, [], ◌++◌, map, get_or, Option, Some, None, option_map, option_and_then, Ok, Err, if◌then◌else◌}
use Rattle.std.specs.List.{enumerate_from}
use Rattle.mv_syntax.specs.Words.{◌otherwise◌, is_set}
use Rattle.mv_short_sets.specs.declared.delta.Delta.{Delta}
use Rattle.mv_slice.specs.declared.slice.SliceHead.{SliceHead}
use Rattle.mv_slice.specs.declared.slice.SliceFull.{SliceFull}
use Rattle.mv_slice.specs.declared.picture.SliceReferences.{SliceReferences}
use Rattle.mv_slice.specs.declared.long_terms.LongTerm.{LongTerm}
use Rattle.mv_slice.specs.declared.lists.SliceLists.{SliceLists}
use Rattle.mv_slice.specs.Context.{SliceContextValue}
use Rattle.mv_slice.specs.LongTerms.{LongTermsValue}
use Rattle.mv_slice.specs.Derived.{short_deltas, is_long_used, long_lsb, cycle}
use Rattle.mv_slice.specs.Numbers.{is_b, is_p}
use Rattle.mv_slice.specs.Prediction.{num_entries}
use Rattle.mv_slice.specs.Slice.{header_total, header_layers}
use Rattle.mv_pictures.specs.Layers.{directs}
use Rattle.mv_pictures.specs.Facts.{Fact}

-- ---- Parts of the header

abbrev pub head_of : Fact → Option SliceHead
head_of f = option_and_then (λ r. elim r [ Ok v ↦ Some v | Err fault ↦ None ]) f.header

abbrev pub full_of : Fact → Option SliceFull
full_of f = option_and_then (λ (h : SliceHead). h.full) (head_of f)

abbrev pub lists_of : Fact → Option SliceLists
lists_of f = option_and_then (λ (full : SliceFull). full.prediction.lists) (full_of f)

-- ---- The picture

-- slice_pic_order_cnt_lsb, where it is coded
unfoldable pub coded_lsb : Fact → Option ℕ
coded_lsb f = option_and_then (λ (full : SliceFull). full.picture.slice_pic_order_cnt_lsb) (full_of f)

-- MaxPicOrderCntLsb
unfoldable pub max_lsb : Fact → ℕ
max_lsb f = 2 ^ (option_map (λ (c : SliceContextValue). c.lsb_bits) f.context otherwise 4)

-- pic_output_flag: 1 where it isn't coded
unfoldable pub is_put_out : Fact → Bool
is_put_out f = is_set (option_and_then (λ (full : SliceFull). full.picture.pic_output_flag) (full_of f) otherwise 1)

-- ---- The entries of the reference picture set (7.4.8, 7.4.7.1)

-- which pictures an entry stands for: the one at a distance of the current picture's count; those with these low bits of
-- their count; or the one with these low bits, so many cycles of MaxPicOrderCntLsb behind the current picture
pub data Aim : Type 0 where
  at_delta : ℤ → Aim
  at_lsb : ℕ → Aim
  at_cycle : ℕ → ℕ → Aim

-- an entry, and whether the current picture uses it
pub record Entry : Type 0 where
  pub aim : Aim
  pub used : Bool

abbrev pub short_entry : Delta → Entry
short_entry d = record { aim = at_delta d.delta; used = d.used }

abbrev pub long_aim : SliceContextValue → LongTermsValue → ℕ × LongTerm → Aim
long_aim ctx long_terms (i, e) =
    if is_set e.delta_poc_msb_present_flag then at_cycle (long_lsb ctx e) (cycle long_terms i) else at_lsb (long_lsb ctx e)

unfoldable pub long_entry : SliceContextValue → LongTermsValue → ℕ × LongTerm → Entry
long_entry ctx long_terms e = record { aim = long_aim ctx long_terms e; used = is_long_used ctx e.1 }

abbrev pub long_entries : SliceContextValue → Option LongTermsValue → List Entry
long_entries ctx None = []
long_entries ctx (Some long_terms) = map (long_entry ctx long_terms) (enumerate_from 0 long_terms.entries)

abbrev pub coded_entries : SliceContextValue → SliceReferences → List Entry
coded_entries ctx r = map short_entry (short_deltas ctx r.st_ref_pic_set r.short_term_ref_pic_set_idx) ++ long_entries ctx r.long_terms

-- the entries of a picture: short-term ones before it in output order, those after it, and long-term ones
unfoldable pub entries : Fact → List Entry
entries f =
    let references : Option SliceReferences = option_and_then (λ (full : SliceFull). full.picture.references) (full_of f) in
    option_and_then (λ ctx. option_map (coded_entries ctx) references) f.context otherwise []

-- ---- Inter-layer references and lists

-- the active reference layers of a segment, by nuh_layer_id
unfoldable pub active_layers : Fact → List ℕ
active_layers f =
    let item = f.placed.item in
    map (λ i. get_or (directs item.at item.head.layer) i 0) (option_map (λ ctx. header_layers ctx (full_of f)) f.context otherwise [])

-- NumPicTotalCurr
unfoldable pub num_pic_total_curr : Fact → ℕ
num_pic_total_curr f = option_map (λ ctx. header_total ctx (full_of f)) f.context otherwise 0

-- a segment with its own full header, and a P or B one
abbrev pub is_full : Fact → Bool
is_full f = option_map (λ _. true) (full_of f) otherwise false

abbrev pub type_is : (ℕ → Bool) → Fact → Bool
type_is test f = option_map (λ (full : SliceFull). test full.picture.slice_type) (full_of f) otherwise false

abbrev pub predicts : Fact → Bool
predicts f = type_is is_p f || type_is is_b f

-- how many entries of list 0 and of list 1 are active: none of either in an I segment, none of list 1 in a P segment
unfoldable pub active_l0 : Fact → ℕ
active_l0 f =
    option_and_then (λ (ctx : SliceContextValue). option_map (λ (l : SliceLists). num_entries l.num_ref_idx_l0_active_minus1 ctx.num_ref_idx_l0_default_active_minus1) (lists_of f)) f.context otherwise 0

unfoldable pub active_l1 : Fact → ℕ
active_l1 f =
    if type_is is_b f
    then option_and_then (λ (ctx : SliceContextValue). option_map (λ (l : SliceLists). num_entries l.num_ref_idx_l1_active_minus1 ctx.num_ref_idx_l1_default_active_minus1) (lists_of f)) f.context otherwise 0
    else 0

-- list_entry_l0 and list_entry_l1, where they are coded
unfoldable pub list_entry_l0 : Fact → Option (List ℕ)
list_entry_l0 f = option_and_then (λ (l : SliceLists). l.modification.list_entry_l0) (lists_of f)

unfoldable pub list_entry_l1 : Fact → Option (List ℕ)
list_entry_l1 f = option_and_then (λ (l : SliceLists). l.modification.list_entry_l1) (lists_of f)
