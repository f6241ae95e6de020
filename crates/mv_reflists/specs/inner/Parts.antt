-- The places of the references by their parts.
use Rattle.std.specs.Prelude.{ℕ, List}
use Rattle.std.specs.List.{flat_map, range_with_len}
use Rattle.mv_reflists.specs.declared.parts.Part.{Part}

-- the places of a part, and of some parts behind one another
abbrev pub places_in : Part → List ℕ
places_in part = range_with_len part.first part.count

abbrev pub places_of : List Part → List ℕ
places_of order = flat_map places_in order
