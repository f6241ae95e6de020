-- The pictures that are kept, made and shown of a stream are the values of their terms (8.3, C.5.2, F.8.3). Histories have the
-- latest first.
use Rattle.std.specs.Prelude.{ℕ, ◌<◌, List, get_or, Option}
use Rattle.std.specs.Option.{IfSome}
use Rattle.mv_dpb.specs.declared.shown.Shown.{Shown}
use Rattle.mv_dpb.specs.Waiting.{WaitingValue}
use Rattle.mv_pictures.specs.Judged.{Judged}
use Rattle.mv_rebuild.specs.Parts.{Making}
use Rattle.mv_walk_layer.specs.LayerValue.{LayerValue, no_pictures}
use Rattle.mv_walk_values.specs.Holding.{HoldsValues}
use Rattle.mv_walk_values.specs.InMaking.{IsInMaking, MadeValue, is_output_made, made_in}
use Rattle.mv_walk_values.specs.Showing.{ShowsValues}

-- what is kept of the layers are values, but the picture in the making, whose work stands for its parts so far; and of the output
-- pictures of set o that are whole, in output order, the first were shown, and the others wait
pub record ValuesStand {W P : Type 0} (meaning : Making W P) (o : ℕ) (past : List Judged) (layers : List (LayerValue P)) (making : Option (MadeValue W)) (q : Option (WaitingValue P)) (shown : List (Shown × P)) : Type 0 where
  pub held : (n : ℕ) → n < 64 → HoldsValues meaning.picture (get_or layers n no_pictures) past n (made_in making n)
  pub made : IfSome making (IsInMaking meaning o past)
  pub output : ShowsValues meaning.picture o past (is_output_made making) q shown
