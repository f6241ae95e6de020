-- The tiles of a picture parameter set (7.3.2.3.1), coded where tiles_enabled_flag is 1. Over 256 columns or rows break the
-- limit rule (this project's profile).
use Rattle.std.specs.Prelude.{ℕ, not, List, Option, refl}
use Rattle.mv_syntax.specs.Table.{Table, ◌>>=◌, u, ue, named, when, shaped}
use Rattle.mv_syntax.specs.Words.{◌▸◌, ◌>>◌, ◌!◌∶◌, over, is_set}
use Rattle.mv_syntax.specs.Loops.{ues}
use Rattle.mv_rules.specs.declared.rule.Rule.TheVariants.{PpsLimit}

-- the fields in coded order; a loop that is not coded is None
pub record PpsTilesValue : Type 0 where
  pub num_tile_columns_minus1 : ℕ
  pub num_tile_rows_minus1 : ℕ
  pub uniform_spacing_flag : ℕ
  pub column_width_minus1 : Option (List ℕ)
  pub row_height_minus1 : Option (List ℕ)
  pub loop_filter_across_tiles_enabled_flag : ℕ

unfoldable pub tiles : Table PpsTilesValue
tiles = shaped
    (λ (num_tile_columns_minus1, (num_tile_rows_minus1, (uniform_spacing_flag, (column_width_minus1, (row_height_minus1, loop_filter_across_tiles_enabled_flag))))). record {
      num_tile_columns_minus1 = num_tile_columns_minus1;
      num_tile_rows_minus1 = num_tile_rows_minus1;
      uniform_spacing_flag = uniform_spacing_flag;
      column_width_minus1 = column_width_minus1;
      row_height_minus1 = row_height_minus1;
      loop_filter_across_tiles_enabled_flag = loop_filter_across_tiles_enabled_flag;
    })
    (λ v.
    v.num_tile_columns_minus1
    ▸ v.num_tile_rows_minus1
    ▸ v.uniform_spacing_flag
    ▸ v.column_width_minus1
    ▸ v.row_height_minus1
    ▸ v.loop_filter_across_tiles_enabled_flag)
    (λ _. refl)
    do
      num_tile_columns_minus1 ← named "num_tile_columns_minus1" (ue ! PpsLimit ∶ over 255)
      num_tile_rows_minus1 ← named "num_tile_rows_minus1" (ue ! PpsLimit ∶ over 255)
      uniform_spacing_flag ← named "uniform_spacing_flag" (u 1)
      named "column_width_minus1" (when (not (is_set uniform_spacing_flag)) (ues 0 num_tile_columns_minus1))
      named "row_height_minus1" (when (not (is_set uniform_spacing_flag)) (ues 0 num_tile_rows_minus1))
      named "loop_filter_across_tiles_enabled_flag" (u 1)
