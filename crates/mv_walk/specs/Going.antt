-- What a walker that goes on has counted, and what it keeps.
use Rattle.std.specs.Prelude.{ℕ, ◌≡◌, List, length, reverse}
use Rattle.std.specs.List.{filter}
use Rattle.mv_pictures.specs.Items.{items, stays}
use Rattle.mv_walk.specs.Courses.{Stood}
use Rattle.mv_walk.specs.declared.course.Course.{Course}

-- it has counted these units, and those of them that are kept for the output layer set that is asked for; and what it keeps stands
-- for them
pub record IsBehind {R W P : Type 0} (asked number kept : ℕ) (c : Course R W P) (us : List (List ℕ)) : Type 0 where
  pub number_is : number ≡ length us
  pub kept_is : kept ≡ length (filter (stays asked) (items (reverse us)))
  pub asked_is : c.decoder.asked ≡ asked
  pub stood : Stood c us

-- the same of some units
pub record Goes {R W P : Type 0} (asked number kept : ℕ) (c : Course R W P) : Type 0 where
  pub units : List (List ℕ)
  pub behind : IsBehind asked number kept c units
