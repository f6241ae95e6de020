-- What a picture's term is rebuilt to, and what is shown of the output pictures, for any way to rebuild pictures (this project's
-- profile).
use Rattle.std.specs.Prelude.{List, [], ◌∷◌, ◌++◌, map}
use Rattle.mv_pictures.specs.Terms.{References, Tag, Term, picture, none}
use Rattle.mv_pictures.specs.Decoding.{Decoded}
use Rattle.mv_dpb.specs.declared.shown.Shown.{Shown}
use Rattle.mv_rebuild.specs.Parts.{Part, begins, has}

-- the picture that `rebuild` gives for the parts of a term: its start, then each of its references in its part, as the picture that
-- this one's own term is rebuilt to, then each of its segments with its lists
unfoldable mutual
  pub value : {P : Type 0} → (List (Part P) → P) → Term → P
  value rebuild (picture start references segments) =
      rebuild (begins start ∷ (values rebuild references ++ map has segments))

  pub values : {P : Type 0} → (List (Part P) → P) → References → List (Part P)
  values rebuild none = []
  values rebuild (References.refers tag term rest) = Part.refers tag (value rebuild term) ∷ values rebuild rest

-- a reference, as a part of the picture that refers to it
abbrev pub reference_of : {P : Type 0} → (List (Part P) → P) → Tag × Term → Part P
reference_of rebuild reference = Part.refers reference.0 (value rebuild reference.1)

-- what is told of a decoded picture that is put out
abbrev pub shown_of : Decoded → Shown
shown_of d = record { sequence = d.sequence; count = d.count; layer = d.layer; view = d.view }

-- decoded pictures as they are shown, in their order
abbrev pub showings : {P : Type 0} → (List (Part P) → P) → List Decoded → List (Shown × P)
showings rebuild pictures = map (λ (d : Decoded). (shown_of d, value rebuild d.term)) pictures
