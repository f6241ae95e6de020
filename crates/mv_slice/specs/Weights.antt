-- pred_weight_table (7.3.6.3): the weights of the active entries of the reference picture lists.
use Rattle.std.specs.Prelude.{ℕ, ℤ, Bool, List, [], Option, get_or, nat_eq, refl, if◌then◌else◌}
use Rattle.mv_syntax.specs.Table.{Table, ◌>>=◌, ue, se, named, when, shaped}
use Rattle.mv_syntax.specs.Words.{◌▸◌, ◌>>◌, is_set, ◌otherwise◌}
use Rattle.mv_syntax.specs.Loops.{items, us, each}
use Rattle.mv_slice.specs.declared.weights.ChromaWeight.{ChromaWeight}

-- the weights of an entry; those of chroma are that of Cb and that of Cr
pub record EntryWeightsValue : Type 0 where
  pub delta_luma_weight : Option ℤ
  pub luma_offset : Option ℤ
  pub chroma : Option (List ChromaWeight)

-- the weights of a list
pub record ListWeightsValue : Type 0 where
  pub luma_weight_flag : List ℕ
  pub chroma_weight_flag : Option (List ℕ)
  pub entries : List EntryWeightsValue

-- the fields in coded order
pub record PredWeightTableValue : Type 0 where
  pub luma_log2_weight_denom : ℕ
  pub delta_chroma_log2_weight_denom : Option ℤ
  pub lists : List ListWeightsValue

-- the weight of Cb, or that of Cr
unfoldable pub chroma_weight : Table ChromaWeight
chroma_weight = shaped
    (λ (delta_chroma_weight, delta_chroma_offset). record {
      delta_chroma_weight = delta_chroma_weight;
      delta_chroma_offset = delta_chroma_offset;
    })
    (λ v.
    v.delta_chroma_weight
    ▸ v.delta_chroma_offset)
    (λ _. refl)
    do
      named "delta_chroma_weight" se
      named "delta_chroma_offset" se

-- twice
unfoldable pub chroma_weights : Table (List ChromaWeight)
chroma_weights = items 0 2 (each chroma_weight)

-- flag i of a list is 1
abbrev pub flag_at : List ℕ → ℕ → Bool
flag_at flags i = is_set (get_or flags i 0)

-- entry i, behind the flags of all
unfoldable pub entry_weights : List ℕ → List ℕ → ℕ → Table EntryWeightsValue
entry_weights luma_weight_flag chroma_weight_flag i = shaped
    (λ (delta_luma_weight, (luma_offset, chroma)). record {
      delta_luma_weight = delta_luma_weight;
      luma_offset = luma_offset;
      chroma = chroma;
    })
    (λ v.
    v.delta_luma_weight
    ▸ v.luma_offset
    ▸ v.chroma)
    (λ _. refl)
    do
      named "delta_luma_weight" (when (flag_at luma_weight_flag i) se)
      named "luma_offset" (when (flag_at luma_weight_flag i) se)
      when (flag_at chroma_weight_flag i) chroma_weights

-- for each active i
unfoldable pub entry_weights_of_all : List ℕ → List ℕ → ℕ → Table (List EntryWeightsValue)
entry_weights_of_all luma_weight_flag chroma_weight_flag active = items 0 active (entry_weights luma_weight_flag chroma_weight_flag)

-- the weights of a list with this number of active entries
unfoldable pub list_weights : Bool → ℕ → Table ListWeightsValue
list_weights chroma active = shaped
    (λ (luma_weight_flag, (chroma_weight_flag, entries)). record {
      luma_weight_flag = luma_weight_flag;
      chroma_weight_flag = chroma_weight_flag;
      entries = entries;
    })
    (λ v.
    v.luma_weight_flag
    ▸ v.chroma_weight_flag
    ▸ v.entries)
    (λ _. refl)
    do
      luma_weight_flag ← named "luma_weight_flag" (us 0 active 1)
      chroma_weight_flag ← named "chroma_weight_flag" (when chroma (us 0 active 1))
      entry_weights_of_all luma_weight_flag (chroma_weight_flag otherwise []) active

-- list 0 or 1, from the numbers of active entries of both
unfoldable pub numbered_list : Bool → ℕ → ℕ → ℕ → Table ListWeightsValue
numbered_list chroma active_l0 active_l1 list = list_weights chroma (if nat_eq list 0 then active_l0 else active_l1)

-- for list 0, and for B then list 1
unfoldable pub lists_weights : Bool → ℕ → ℕ → ℕ → Table (List ListWeightsValue)
lists_weights chroma active_l0 active_l1 lists = items 0 lists (numbered_list chroma active_l0 active_l1)

unfoldable pub pred_weight_table : Bool → Bool → ℕ → ℕ → Table PredWeightTableValue
pred_weight_table chroma b active_l0 active_l1 = shaped
    (λ (luma_log2_weight_denom, (delta_chroma_log2_weight_denom, lists)). record {
      luma_log2_weight_denom = luma_log2_weight_denom;
      delta_chroma_log2_weight_denom = delta_chroma_log2_weight_denom;
      lists = lists;
    })
    (λ v.
    v.luma_log2_weight_denom
    ▸ v.delta_chroma_log2_weight_denom
    ▸ v.lists)
    (λ _. refl)
    do
      named "luma_log2_weight_denom" ue
      named "delta_chroma_log2_weight_denom" (when chroma se)
      lists_weights chroma active_l0 active_l1 (if b then 2 else 1)
