-- The fields of st_ref_pic_set(idx, num) (7.3.7), in coded order: a field that is not coded is None, a loop that is not
-- coded is an empty list.
use Rattle.std.specs.Prelude.{ℕ, List, Option}

pub record ShortSetValue : Type 0 where
  pub inter_ref_pic_set_prediction_flag : Option ℕ
  pub delta_idx_minus1 : Option ℕ
  pub delta_rps_sign : Option ℕ
  pub abs_delta_rps_minus1 : Option ℕ
  pub used_by_curr_pic_flag : List ℕ
  pub use_delta_flag : List (Option ℕ)
  pub num_negative_pics : Option ℕ
  pub num_positive_pics : Option ℕ
  pub delta_poc_s0_minus1 : List ℕ
  pub used_by_curr_pic_s0_flag : List ℕ
  pub delta_poc_s1_minus1 : List ℕ
  pub used_by_curr_pic_s1_flag : List ℕ
