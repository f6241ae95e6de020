-- What a walker stands for: the units of a stream so far, none of which is objected to (this project's profile).
use Rattle.std.specs.Prelude.{ℕ, ◌≡◌, List, None}
use Rattle.mv_walk.specs.Going.{Goes, IsBehind}
use Rattle.mv_walk.specs.declared.walker.Walker.{Walker}

-- a walker that goes on stands for units
pub record Stands {R W P : Type 0} (w : Walker R W P) (us : List (List ℕ)) : Type 0 where
  pub goes_on : w.failed ≡ None
  pub behind : IsBehind w.asked w.number w.kept w.course us

-- one that goes on stands for some units
abbrev pub MayGo : {R W P : Type 0} → Walker R W P → Type 0
MayGo w = w.failed ≡ None → Goes w.asked w.number w.kept w.course
