-- What is told of a unit and of a whole stream (this project's profile).
use Rattle.std.specs.Prelude.{ℕ, ℤ, List, Option, Some, None, option_and_then, if◌then◌else◌}
use Rattle.mv_units.specs.Head.{head}
use Rattle.mv_pictures.specs.Counts.{count}
use Rattle.mv_pictures.specs.Facts.{Fact}
use Rattle.mv_pictures.specs.History.{history_of}
use Rattle.mv_pictures.specs.Items.{stays}
use Rattle.mv_pictures.specs.Judged.{is_picture}
use Rattle.mv_pictures.specs.Look.{Look, look}
use Rattle.mv_pictures.specs.PictureRules.{is_in_range}
use Rattle.mv_commuting.specs.OneMore.{fact_behind}
use Rattle.mv_au.specs.declared.states.PicState.{PicState}
use Rattle.mv_au.specs.States.{state_of}
use Rattle.mv_walk.specs.declared.step.Step.{Step}

-- a count within 32 bits
abbrev pub within_range : Option ℤ → Option ℤ
within_range c = option_and_then (λ n. if is_in_range n then Some n else None) c

-- of the first segment of a picture what becomes of the picture, and its count, if it has one that is told
abbrev pub picture_told : Look → Fact → Option (PicState × Option ℤ)
picture_told l p = if is_picture p then Some (state_of l p, within_range (count l p)) else None

-- what is told of a unit behind others
unfoldable pub step_of : ℕ → List (List ℕ) → List ℕ → Step
step_of o us u =
    let p : Fact = fact_behind us u in
    record { head = head u; kept = stays o p.placed.item; picture = picture_told (look (history_of us) p) p }
