-- The digests of pictures, each from its parts, and what a picture in the making stands for (this project's profile).
use Rattle.std.specs.Prelude.{ℕ, ℤ, pos, ◌≡◌, List, [], ◌∷◌, ◌++◌}
use Rattle.std.specs.List.{flat_map}
use Rattle.mv_rebuild.specs.Parts.{Making, Part, begins, refers, has}
use Rattle.mv_provenance.specs.declared.bound.Bound2.{Bound2}
use Rattle.mv_provenance.specs.declared.bound.Digest2.{Digest2}
use Rattle.mv_provenance.specs.declared.digest.Digest32.{Digest32}
use Rattle.mv_provenance.specs.declared.message.Message.{Message}
use Rattle.mv_provenance.specs.Formats.{part_bytes1, part_bytes2}
use Rattle.mv_provenance.specs.Message.{Fed, digest_of}

-- the view and the count of the start, with which the parts begin
abbrev pub view_of : {P : Type 0} → List (Part P) → ℕ
view_of (begins s ∷ rest) = s.view
view_of (refers tag pic ∷ rest) = 0
view_of (has s ∷ rest) = 0
view_of [] = 0

abbrev pub count_of : {P : Type 0} → List (Part P) → ℤ
count_of (begins s ∷ rest) = s.count
count_of (refers tag pic ∷ rest) = pos 0
count_of (has s ∷ rest) = pos 0
count_of [] = pos 0

-- ---- Format 1

-- the SHA-256 of the bytes of its parts in order, and 3
abbrev pub picture1 : List (Part Digest32) → Digest32
picture1 parts = record { bytes = digest_of (flat_map part_bytes1 parts ++ 3 ∷ []) }

abbrev pub making1 : Making Message Digest32
making1 = record { stands = λ work parts. Fed work (flat_map part_bytes1 parts); picture = picture1 }

-- ---- Format 2

-- the same in format 2, beside the view and the count of the start
abbrev pub picture2 : List (Part Digest2) → Digest2
picture2 parts = record {
  bytes = digest_of (flat_map part_bytes2 parts ++ 3 ∷ []);
  view = view_of parts;
  count = count_of parts;
}

pub record Stands2 (work : Bound2) (parts : List (Part Digest2)) : Type 0 where
  pub fed : Fed work.message (flat_map part_bytes2 parts)
  pub view : work.view ≡ view_of parts
  pub count : work.count ≡ count_of parts

abbrev pub making2 : Making Bound2 Digest2
making2 = record { stands = Stands2; picture = picture2 }
