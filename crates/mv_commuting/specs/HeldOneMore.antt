-- What one unit more makes of what is held (8.3.2).
use Rattle.std.specs.Prelude.{ℕ, Bool, false, ◌||◌, List, []}
use Rattle.mv_layers.specs.OutputLayers.{is_among}
use Rattle.mv_pictures.specs.Judged.{Judged, au}
use Rattle.mv_pictures.specs.Held.{Held, held_behind}
use Rattle.mv_pictures.specs.Look.{in_sequence}

-- what is held of layer n behind all units of a history
abbrev pub held_of : List Judged → ℕ → List Held
held_of past n = held_behind [] (in_sequence past n)

-- a picture as it is held right behind itself
abbrev pub unmarked : Judged → Held
unmarked d = record { it = d; long = false }

-- a picture names a held one: an entry of it matches that one
abbrev pub names_held : Judged → Held → Bool
names_held d h = is_among d.names (au h.it.fact)

-- a held picture behind one unit more: marked where it was, or where a long-term entry of the unit matches it
abbrev pub marked_by : Judged → Held → Held
marked_by d h = record { it = h.it; long = h.long || is_among d.longs (au h.it.fact) }
