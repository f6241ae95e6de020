-- A short-term reference picture set, st_ref_pic_set(idx, num) (7.3.7, 7.4.8): set idx of num sets of a sequence parameter
-- set, or with idx = num the set of a slice header.
use Rattle.std.specs.Prelude.{◌≡◌, ℕ, ◌+◌, ◌-◌, ◌≤◌, Bool, not, ◌&&◌, List, [], length, Option, nat_lt, nat_eq, refl, if◌then◌else◌}
use Rattle.mv_syntax.specs.Table.{Table, Valid, EachValid, ◌>>=◌, u, ue, named, when, shaped}
use Rattle.mv_syntax.specs.Words.{◌▸◌, ◌⊗◌, ◌>>◌, ◌unless◌, over, is_set, or_zero, coded_set}
use Rattle.mv_syntax.specs.Loops.{columns, each}
use Rattle.mv_short_sets.specs.ShortSetValue.{ShortSetValue}
use Rattle.mv_short_sets.specs.Deltas.{reference, deltas, deltas_of_each}
use Prim.Native.String.{String}
use Rattle.mv_short_sets.specs.declared.delta.Delta.{Delta}
use Rattle.mv_short_sets.specs.declared.delta.Side.{Side}
use Rattle.mv_short_sets.specs.declared.delta.Side.TheVariants.{Before, After}

-- the flags of one candidate of a predicted set
unfoldable pub candidate_flags : Table (ℕ ⊗ Option ℕ)
candidate_flags = do
  used_by_curr_pic_flag ← named "used_by_curr_pic_flag" (u 1)
  named "use_delta_flag" (when (not (is_set used_by_curr_pic_flag)) (u 1))

-- one picture of a set that is coded directly: s0 before the current one, s1 after it
abbrev pub delta_poc_minus1 : Side → String
delta_poc_minus1 Before = "delta_poc_s0_minus1"
delta_poc_minus1 After = "delta_poc_s1_minus1"

abbrev pub used_by_curr_pic_flag_of : Side → String
used_by_curr_pic_flag_of Before = "used_by_curr_pic_s0_flag"
used_by_curr_pic_flag_of After = "used_by_curr_pic_s1_flag"

unfoldable pub picture : Side → Table (ℕ ⊗ ℕ)
picture side = do
  named (delta_poc_minus1 side) (ue unless over 32767)
  named (used_by_curr_pic_flag_of side) (u 1)

-- how many candidates a set has: the deltas of its reference set and its picture; none where it is coded directly
abbrev pub num_candidates : Bool → List Delta → ℕ
num_candidates is_predicted reference = if is_predicted then length reference + 1 else 0

-- the fields of set idx of num, where the sets before it have the deltas `earlier`
unfoldable pub set_fields : ℕ → ℕ → List (List Delta) → Table ShortSetValue
set_fields idx num earlier = shaped
    (λ (inter_ref_pic_set_prediction_flag, (delta_idx_minus1, (delta_rps_sign, (abs_delta_rps_minus1, ((used_by_curr_pic_flag, use_delta_flag), (num_negative_pics, (num_positive_pics, ((delta_poc_s0_minus1, used_by_curr_pic_s0_flag), (delta_poc_s1_minus1, used_by_curr_pic_s1_flag))))))))). record {
      inter_ref_pic_set_prediction_flag = inter_ref_pic_set_prediction_flag;
      delta_idx_minus1 = delta_idx_minus1;
      delta_rps_sign = delta_rps_sign;
      abs_delta_rps_minus1 = abs_delta_rps_minus1;
      used_by_curr_pic_flag = used_by_curr_pic_flag;
      use_delta_flag = use_delta_flag;
      num_negative_pics = num_negative_pics;
      num_positive_pics = num_positive_pics;
      delta_poc_s0_minus1 = delta_poc_s0_minus1;
      used_by_curr_pic_s0_flag = used_by_curr_pic_s0_flag;
      delta_poc_s1_minus1 = delta_poc_s1_minus1;
      used_by_curr_pic_s1_flag = used_by_curr_pic_s1_flag;
    })
    (λ s.
    s.inter_ref_pic_set_prediction_flag
    ▸ s.delta_idx_minus1
    ▸ s.delta_rps_sign
    ▸ s.abs_delta_rps_minus1
    ▸ (s.used_by_curr_pic_flag, s.use_delta_flag)
    ▸ s.num_negative_pics
    ▸ s.num_positive_pics
    ▸ (s.delta_poc_s0_minus1, s.used_by_curr_pic_s0_flag)
    ▸ (s.delta_poc_s1_minus1, s.used_by_curr_pic_s1_flag))
    (λ _. refl)
    do
      inter_ref_pic_set_prediction_flag ← named "inter_ref_pic_set_prediction_flag" (when (nat_lt 0 idx) (u 1))
      let is_predicted : Bool = coded_set inter_ref_pic_set_prediction_flag in do
        delta_idx_minus1 ← named "delta_idx_minus1" (when (is_predicted && nat_eq idx num) (ue unless over (idx - 1)))
        named "delta_rps_sign" (when is_predicted (u 1))
        named "abs_delta_rps_minus1" (when is_predicted (ue unless over 32767))
        columns 0 (num_candidates is_predicted (reference idx earlier delta_idx_minus1)) (each candidate_flags)
        num_negative_pics ← named "num_negative_pics" (when (not is_predicted) (ue unless over 16))
        num_positive_pics ← named "num_positive_pics"
            (when (not is_predicted) (ue unless (λ n. over 16 (or_zero num_negative_pics + n))))
        columns 0 (or_zero num_negative_pics) (each (picture Before))
        columns 0 (or_zero num_positive_pics) (each (picture After))

-- the set: behind its last field it is past its limit where it has over 16 deltas
unfoldable pub st_ref_pic_set : ℕ → ℕ → List (List Delta) → Table ShortSetValue
st_ref_pic_set idx num earlier = set_fields idx num earlier unless (λ s. over 16 (length (deltas idx earlier s)))

-- each of some sets from set 0 on is valid, as one of num
abbrev pub ValidSets : ℕ → List ShortSetValue → Type 0
ValidSets num sets = EachValid (λ before s. Valid (st_ref_pic_set (length before) num (deltas_of_each before)) s) [] sets

-- what a set is read and written by: it is set idx of at most num, num is at most 64, and `earlier` are the valid sets 0 to
-- idx - 1
pub record AreShortArgs (idx num : ℕ) (earlier : List ShortSetValue) : Type 0 where
  pub within : idx ≤ num
  pub few : num ≤ 64
  pub all_earlier : length earlier ≡ idx
  pub valid : ValidSets num earlier
