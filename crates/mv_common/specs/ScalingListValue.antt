-- The fields of one list of scaling_list_data (7.3.4), in coded order: a field that is not coded is None, a loop that is not
-- coded is an empty list.
use Rattle.std.specs.Prelude.{ℕ, ℤ, List, Option}

pub record ScalingListValue : Type 0 where
  pub scaling_list_pred_mode_flag : ℕ
  pub scaling_list_pred_matrix_id_delta : Option ℕ
  pub scaling_list_dc_coef_minus8 : Option ℤ
  pub scaling_list_delta_coef : List ℤ
