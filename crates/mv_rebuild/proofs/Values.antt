-- What the references given by a list are rebuilt to.
use Rattle.std.proofs.Common.{◌≡◌, List, [], ◌∷◌, ◌++◌, map, refl, ap}
use Rattle.mv_pictures.specs.Terms.{References, Segment, Start, Tag, Term, picture, references_of}
use Rattle.mv_rebuild.specs.Parts.{Part, begins, has}
use Rattle.mv_rebuild.specs.Value.{reference_of, value, values}

pub value_is : {P : Type 0} (rebuild : List (Part P) → P) (start : Start) (references : References) (segments : List Segment) →
    value rebuild (picture start references segments) ≡ rebuild (begins start ∷ (values rebuild references ++ map has segments))
unfolding value
value_is rebuild start references segments = refl

pub values_are : {P : Type 0} (rebuild : List (Part P) → P) (references : List (Tag × Term)) →
    values rebuild (references_of references) ≡ map (reference_of rebuild) references
unfolding values references_of
values_are rebuild [] = refl
values_are rebuild ((tag, term) ∷ rest) = ap (λ parts. Part.refers tag (value rebuild term) ∷ parts) (values_are rebuild rest)
