-- The scaling lists of a parameter set, scaling_list_data (7.3.4).
use Rattle.std.specs.Prelude.{ℕ, ℤ, ◌+◌, ◌*◌, ◌/◌, ◌^◌, min, Bool, not, ◌&&◌, List, nat_lt, nat_eq, refl, if◌then◌else◌}
use Rattle.mv_syntax.specs.Table.{Table, ◌>>=◌, u, ue, se, named, when, shaped}
use Rattle.mv_syntax.specs.Words.{◌▸◌, ◌>>◌, is_set}
use Rattle.mv_syntax.specs.Loops.{items, items_numbered, each}
use Rattle.mv_common.specs.ScalingListValue.{ScalingListValue}

-- how many coefficients are coded for a list of size s (7.3.4, coefNum)
abbrev pub num_coefficients : ℕ → ℕ
num_coefficients s = min 64 (2 ^ (4 + 2 * s))

unfoldable pub coefficient : ℕ → Table ℤ
coefficient k = named "scaling_list_delta_coef" se

unfoldable pub coefficients : Bool → ℕ → Table (List ℤ)
coefficients coded s = items 0 (if coded then num_coefficients s else 0) coefficient

-- one list of size s, for blocks of 2 ^ (2 + s) by 2 ^ (2 + s) samples
unfoldable pub scaling_list : ℕ → Table ScalingListValue
scaling_list s = shaped
    (λ (scaling_list_pred_mode_flag, (scaling_list_pred_matrix_id_delta, (scaling_list_dc_coef_minus8, scaling_list_delta_coef))). record {
      scaling_list_pred_mode_flag = scaling_list_pred_mode_flag;
      scaling_list_pred_matrix_id_delta = scaling_list_pred_matrix_id_delta;
      scaling_list_dc_coef_minus8 = scaling_list_dc_coef_minus8;
      scaling_list_delta_coef = scaling_list_delta_coef;
    })
    (λ v.
    v.scaling_list_pred_mode_flag
    ▸ v.scaling_list_pred_matrix_id_delta
    ▸ v.scaling_list_dc_coef_minus8
    ▸ v.scaling_list_delta_coef)
    (λ _. refl)
    do
      scaling_list_pred_mode_flag ← named "scaling_list_pred_mode_flag" (u 1)
      let has_coefficients : Bool = is_set scaling_list_pred_mode_flag in do
        named "scaling_list_pred_matrix_id_delta" (when (not has_coefficients) ue)
        named "scaling_list_dc_coef_minus8" (when (has_coefficients && nat_lt 1 s) se)
        coefficients has_coefficients s

-- the lists of size s are those of matrices 0 to 5, of size 3 those of matrices 0 and 3 (matrixId)
abbrev pub matrix_step : ℕ → ℕ
matrix_step s = if nat_eq s 3 then 3 else 1

abbrev pub matrix_id : ℕ → ℕ → ℕ
matrix_id s turn = matrix_step s * turn

unfoldable pub lists_of_size : ℕ → Table (List ScalingListValue)
lists_of_size s = items_numbered (matrix_id s) (6 / matrix_step s) (each (scaling_list s))

-- the lists of the sizes 0 to 3
unfoldable pub scaling_list_data : Table (List (List ScalingListValue))
scaling_list_data = items 0 4 lists_of_size
