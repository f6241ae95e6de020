-- The latest output picture of a history comes to those that wait (C.5.2.3). Histories have the latest first.
use Rattle.std.specs.Prelude.{◌≡◌, ℕ, List, ◌∷◌}
use Rattle.std.specs.List.{filter}
use Rattle.mv_dpb.specs.declared.shown.Shown.{Shown}
use Rattle.mv_pictures.specs.Decoding.{decoded_of}
use Rattle.mv_pictures.specs.Judged.{Judged, au}
use Rattle.mv_pictures.specs.Output.{is_output}
use Rattle.mv_rebuild.specs.Parts.{Part}
use Rattle.mv_rebuild.specs.Value.{shown_of}
use Rattle.mv_walk_values.specs.Showing.{latest_sequence}
use Rattle.mv_walk_values.specs.Values.{value_of}

-- it is of the latest sequence, and these are what is told of it, its access unit and its value
pub record IsComing {P : Type 0} (rebuild : List (Part P) → P) (o : ℕ) (past : List Judged) (told : Shown) (unit : ℕ) (pic : P) : Type 0 where
  pub it : Judged
  pub rest : List Judged
  pub outputs_are : filter (is_output o) past ≡ it ∷ rest
  pub of_latest : it.sequence ≡ latest_sequence past
  pub told_is : told ≡ shown_of (decoded_of past it)
  pub au_is : unit ≡ au it.fact
  pub value_is : pic ≡ value_of rebuild past it
