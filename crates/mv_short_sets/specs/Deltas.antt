-- The deltas of a short-term reference picture set (7.4.8): how far each picture that it names stands from the current
-- picture in output order, those before it first.
use Rattle.std.specs.Prelude.{◌≡◌, ℕ, suc, ◌+◌, ◌-◌, Bool, ◌&&◌, List, [], ◌∷◌, ◌++◌, length, reverse, map, get_or, ℤ, pos, neg_ℤ, ◌+ℤ◌, ◌≤ℤ◌, int_lt, Option, None, if◌then◌else◌}
use Rattle.std.specs.List.{filter}
use Rattle.mv_syntax.specs.Words.{is_set, ◌otherwise◌, or_zero, coded_set}
use Rattle.mv_short_sets.specs.ShortSetValue.{ShortSetValue}
use Rattle.mv_short_sets.specs.declared.delta.Delta.{Delta}
use Rattle.mv_short_sets.specs.declared.delta.Side.{Side}
use Rattle.mv_short_sets.specs.declared.delta.Side.TheVariants.{Before, After}

-- whether a delta is on a side of the current picture: below 0 for a picture before it in output order, above 0 for one after
-- it
abbrev pub is_on : Side → ℤ → Bool
is_on Before d = int_lt d (pos 0)
is_on After d = int_lt (pos 0) d

-- the delta at a distance on a side
abbrev pub at_distance : Side → ℕ → ℤ
at_distance Before n = neg_ℤ (pos n)
at_distance After n = pos n

-- ---- Sets that are coded directly

-- pictures on one side: each stands further away than the one before it, the first from 0, by its number plus 1, and is used
-- where its flag is 1
abbrev pub steps : Side → ℕ → List ℕ → List ℕ → List Delta
steps side far [] flags = []
steps side far (minus1 ∷ more) [] = []
steps side far (minus1 ∷ more) (flag ∷ flags) =
    record { delta = at_distance side (far + minus1 + 1); used = is_set flag } ∷ steps side (far + minus1 + 1) more flags

unfoldable pub direct : ShortSetValue → List Delta
direct s =
    steps Before 0 s.delta_poc_s0_minus1 s.used_by_curr_pic_s0_flag
    ++ steps After 0 s.delta_poc_s1_minus1 s.used_by_curr_pic_s1_flag

-- ---- Sets that are predicted from a reference set

-- the difference between the two sets: delta_rps_sign 1 is a minus
abbrev pub delta_rps : ShortSetValue → ℤ
delta_rps s =
    if coded_set s.delta_rps_sign then neg_ℤ (pos (or_zero s.abs_delta_rps_minus1 + 1)) else pos (or_zero s.abs_delta_rps_minus1 + 1)

-- a delta that the set may have, and the index of its two flags
pub record Candidate : Type 0 where
  pub delta : ℤ
  pub flags : ℕ

-- the deltas of a reference set plus d, with the indexes from j on
abbrev pub moved : ℤ → ℕ → List Delta → List Candidate
moved d j [] = []
moved d j (one ∷ more) = record { delta = one.delta +ℤ d; flags = j } ∷ moved d (suc j) more

-- of some candidates those on one side whose use_delta_flag is 1, which it is where it is not coded, each with its
-- used_by_curr_pic_flag
abbrev pub is_taken : Side → ShortSetValue → Candidate → Bool
is_taken side s c = is_on side c.delta && is_set (get_or s.use_delta_flag c.flags None otherwise 1)

abbrev pub with_flag : ShortSetValue → Candidate → Delta
with_flag s c = record { delta = c.delta; used = is_set (get_or s.used_by_curr_pic_flag c.flags 0) }

abbrev pub taken : Side → ShortSetValue → List Candidate → List Delta
taken side s candidates = map (with_flag s) (filter (is_taken side s) candidates)

-- the deltas of some that are on one side
abbrev pub on_side : Side → List Delta → List Delta
on_side side some = filter (λ one. is_on side one.delta) some

-- from the reference set's deltas: its n negative ones, S0, have the flags 0 to n - 1, its p positive ones, S1, the flags n
-- to n + p - 1, and the reference set's own picture, which stands at 0, the flags n + p; each side is filled from its far
-- end of the reference set to the other
unfoldable pub predicted : List Delta → ShortSetValue → List Delta
predicted reference s =
    let d : ℤ = delta_rps s in
    let s0 : List Delta = on_side Before reference in
    let s1 : List Delta = on_side After reference in
    let n : ℕ = length s0 in
    let own : Candidate = record { delta = d; flags = n + length s1 } in
    taken Before s (reverse (moved d n s1) ++ own ∷ moved d 0 s0)
    ++ taken After s (reverse (moved d 0 s0) ++ own ∷ moved d n s1)

-- ---- Sets among others

-- the deltas of the reference set of set idx, which is set idx - delta_idx_minus1 - 1
abbrev pub reference : ℕ → List (List Delta) → Option ℕ → List Delta
reference idx earlier delta_idx_minus1 = get_or earlier (idx - or_zero delta_idx_minus1 - 1) []

-- the deltas of set idx, from those of the sets before it
unfoldable pub deltas : ℕ → List (List Delta) → ShortSetValue → List Delta
deltas idx earlier s =
    if coded_set s.inter_ref_pic_set_prediction_flag
    then predicted (reference idx earlier s.delta_idx_minus1) s
    else direct s

-- the deltas of each of some sets, in order, behind the sets whose deltas are known
abbrev pub deltas_behind : List (List Delta) → List ShortSetValue → List (List Delta)
deltas_behind earlier [] = []
deltas_behind earlier (s ∷ sets) =
    deltas (length earlier) earlier s ∷ deltas_behind (earlier ++ deltas (length earlier) earlier s ∷ []) sets

-- the deltas of each of the sets from set 0 on
unfoldable pub deltas_of_each : List ShortSetValue → List (List Delta)
deltas_of_each sets = deltas_behind [] sets

-- ---- What deltas are known by

-- those before the current picture come first, then those after it, and there are no others
pub record IsSided (some : List Delta) : Type 0 where
  pub sided : on_side Before some ++ on_side After some ≡ some

-- a delta is from -n to n
pub record IsNear (n : ℕ) (one : Delta) : Type 0 where
  pub not_below : neg_ℤ (pos n) ≤ℤ one.delta
  pub not_above : one.delta ≤ℤ pos n
