-- The references between the layers of a video parameter set (F.7.4.3.1.1). A layer has an index, from 0; a reference goes to a
-- layer of a lower index.
use Rattle.std.specs.Prelude.{◌≡◌, ℕ, zero, suc, ◌+◌, ◌<◌, Bool, true, false, not, ◌||◌, List, [], get_or, nat_eq}
use Rattle.std.specs.List.{list_any, filter, range_with_len}
use Rattle.mv_syntax.specs.Words.{is_set}

-- direct_dependency_flag[i][j] is 1: the layer of index i refers directly to that of index j; the flags are those of the layers
-- from index 1 on
abbrev pub depends : List (List ℕ) → ℕ → ℕ → Bool
depends flags zero j = false
depends flags (suc k) j = is_set (get_or (get_or flags k []) j 0)

-- the layer of index i has no direct reference layer
abbrev pub independent : List (List ℕ) → ℕ → Bool
independent flags i = not (list_any (depends flags i) (range_with_len 0 i))

-- the indexes of the direct reference layers of the layer of index i, rising
abbrev pub direct_indexes : List (List ℕ) → ℕ → List ℕ
direct_indexes flags i = filter (depends flags i) (range_with_len 0 i)

-- the layer of index i is that of index k, or refers to it directly or indirectly: by direct references, one behind the other
pub data Reaches : List (List ℕ) → ℕ → ℕ → Type 0 where
  itself : (flags : List (List ℕ)) (i : ℕ) → Reaches flags i i
  through : (flags : List (List ℕ)) (i j k : ℕ) → j < i → depends flags i j ≡ true → Reaches flags j k → Reaches flags i k

-- the same by at most n direct references
abbrev pub reaches_within : List (List ℕ) → ℕ → ℕ → ℕ → Bool
reaches_within flags zero i k = nat_eq i k
reaches_within flags (suc n) i k = nat_eq i k || list_any (λ j. reaches_within flags n j k) (direct_indexes flags i)

-- whether the layer of index i reaches that of index k; from index i no more than i references stand one behind the other, since
-- each goes to a lower index
abbrev pub reaches : List (List ℕ) → ℕ → ℕ → Bool
reaches flags i k = reaches_within flags i i k

-- the layer of index i with its direct and indirect reference layers, by their indexes, rising
abbrev pub closure_indexes : List (List ℕ) → ℕ → List ℕ
closure_indexes flags i = filter (reaches flags i) (range_with_len 0 (i + 1))
