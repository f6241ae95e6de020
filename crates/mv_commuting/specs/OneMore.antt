-- What one unit more makes of what is asked of the past.
use Rattle.std.specs.Prelude.{ℕ, Bool, true, false, List, [], ◌∷◌, reverse, if◌then◌else◌}
use Rattle.mv_pictures.specs.Items.{item, items}
use Rattle.mv_pictures.specs.AccessUnits.{all_placed, placed}
use Rattle.mv_pictures.specs.Facts.{Fact, fact}
use Rattle.mv_pictures.specs.Judged.{Judged, begins, of_layer, resets, starts}
use Rattle.mv_pictures.specs.Look.{in_sequence, initialised}
use Rattle.mv_pictures.specs.History.{facts_of}

-- the fact of a unit behind those of a stream, all by their bytes
abbrev pub fact_behind : List (List ℕ) → List ℕ → Fact
fact_behind us u = fact (facts_of us) (placed (all_placed (items (reverse us))) (item (items (reverse us)) u))

-- the units of layer n in the sequence, with one unit more: behind a base picture that starts a sequence none before it is
abbrev pub own_with : Judged → List Judged → ℕ → List Judged
own_with d past n = if of_layer n d then d ∷ (if begins d then [] else in_sequence past n) else (if begins d then [] else in_sequence past n)

-- layer n is initialised behind one unit more: the unit starts it, or it was and the unit doesn't reset it
abbrev pub initialised_with : Judged → List Judged → ℕ → Bool
initialised_with d past n = if starts n d then true else (if resets n d then false else initialised past n)
