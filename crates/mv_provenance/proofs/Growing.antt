-- What a picture in the making of format 2 stands for, once a reference was added.
use Rattle.std.proofs.Common.{◌≡◌, List, [], ◌∷◌, ◌++◌, refl, sym, subst, ap, ◌∙◌}
use Rattle.std.proofs.lemmas.List.{append-nil}
use Rattle.std.proofs.lemmas.List.Concat.{flat_map-append}
use Rattle.std.specs.List.{flat_map}
use Rattle.mv_pictures.specs.Terms.{Tag}
use Rattle.mv_rebuild.specs.Parts.{Part, begins, refers, has}
use Rattle.mv_provenance.specs.declared.bound.Bound2.{Bound2}
use Rattle.mv_provenance.specs.declared.bound.Digest2.{Digest2}
use Rattle.mv_provenance.specs.declared.message.Message.{Message}
use Rattle.mv_provenance.specs.Formats.{part_bytes2}
use Rattle.mv_provenance.specs.Making.{Stands2, count_of, view_of}
use Rattle.mv_provenance.specs.Message.{Fed}

one_more : (parts : List (Part Digest2)) (part : Part Digest2) →
    flat_map part_bytes2 parts ++ part_bytes2 part ≡ flat_map part_bytes2 (parts ++ part ∷ [])
one_more parts part =
    sym (flat_map-append part_bytes2 parts (part ∷ []) ∙ ap (λ bytes. flat_map part_bytes2 parts ++ bytes) (append-nil (part_bytes2 part)))

view_of-refers : {P : Type 0} (parts : List (Part P)) (tag : Tag) (pic : P) → view_of (parts ++ refers tag pic ∷ []) ≡ view_of parts
view_of-refers [] tag pic = refl
view_of-refers (begins s ∷ rest) tag pic = refl
view_of-refers (refers t p ∷ rest) tag pic = refl
view_of-refers (has s ∷ rest) tag pic = refl

count_of-refers : {P : Type 0} (parts : List (Part P)) (tag : Tag) (pic : P) → count_of (parts ++ refers tag pic ∷ []) ≡ count_of parts
count_of-refers [] tag pic = refl
count_of-refers (begins s ∷ rest) tag pic = refl
count_of-refers (refers t p ∷ rest) tag pic = refl
count_of-refers (has s ∷ rest) tag pic = refl

pub refers2 : (work : Bound2) (message : Message) (parts : List (Part Digest2)) (tag : Tag) (pic : Digest2) →
    Fed message (flat_map part_bytes2 parts ++ part_bytes2 (refers tag pic)) → Stands2 work parts →
    Stands2 (record work { message = message }) (parts ++ refers tag pic ∷ [])
refers2 work message parts tag pic fed stands = record {
  fed = subst (Fed message) (one_more parts (refers tag pic)) fed;
  view = stands.view ∙ sym (view_of-refers parts tag pic);
  count = stands.count ∙ sym (count_of-refers parts tag pic);
}
