-- The pictures of a history as the values of their terms, for any way to rebuild pictures (this project's profile). Histories have
-- the latest first.
use Rattle.std.specs.Prelude.{Bool, ◌&&◌, List, ◌∷◌, ◌++◌, map}
use Rattle.std.specs.List.{filter}
use Rattle.mv_pictures.specs.Judged.{Judged, au, in_au, is_slice, layer, of_layer}
use Rattle.mv_pictures.specs.References.{term_in}
use Rattle.mv_pictures.specs.Terms.{Term, picture}
use Rattle.mv_rebuild.specs.Parts.{Part, begins, has}
use Rattle.mv_rebuild.specs.Value.{value, values}

-- the term of a picture, among all units of its layer
abbrev pub term_of : List Judged → Judged → Term
term_of all d = term_in (filter (of_layer (layer d.fact)) all) d

-- what it is rebuilt to
abbrev pub value_of : {P : Type 0} → (List (Part P) → P) → List Judged → Judged → P
value_of rebuild all d = value rebuild (term_of all d)

-- the parts of a term, in order: its start, its references, its segments
abbrev pub parts_of : {P : Type 0} → (List (Part P) → P) → Term → List (Part P)
parts_of rebuild (picture start references segments) = begins start ∷ (values rebuild references ++ map has segments)

-- a unit is a slice segment of a picture: of its layer and its access unit (7.4.2.4.4)
abbrev pub is_segment_of : Judged → Judged → Bool
is_segment_of d e = is_slice e.fact && (of_layer (layer d.fact) e && in_au (au d.fact) e)
