-- A slice segment by its place and the state before it.
use Rattle.std.specs.Prelude.{ℕ, ◌/◌, ◌%◌, List, ◌++◌}
use Rattle.mv_units.specs.Escapes.{escape}
use Rattle.mv_gen.specs.Draws.{next, behind}
use Rattle.mv_gen.specs.Headers.{head_of, header_of}
use Rattle.mv_gen.specs.Units.{data_of, size}

-- those of layer 0 have the even places
unfoldable pub segment_from : ℕ → ℕ → List ℕ
segment_from state place = escape (head_of (place % 2) (place / 2 % 8)) (header_of (place % 2) (place / 2 % 8) ++ data_of state)

-- the state behind it
unfoldable pub state_behind : ℕ → ℕ
state_behind state = behind (next state) (size state)
