-- The text of output pictures (this project's profile).
use Rattle.std.specs.Prelude.{ℕ, List, ◌++◌, codes, decimal}
use Rattle.std.specs.Fmt.{signed_decimal}
use Rattle.hex.specs.Hex.{encode_lower}
use Rattle.mv_pictures.specs.Decoding.{Decoded}
use Rattle.mv_dpb.specs.declared.shown.Shown.{Shown}
use Rattle.mv_rebuild.specs.Value.{showings}
use Rattle.mv_rebuild.specs.Viewing.{text_of}
use Rattle.mv_provenance.specs.declared.bound.Digest2.{Digest2}
use Rattle.mv_provenance.specs.declared.digest.Digest32.{Digest32}
use Rattle.mv_provenance.specs.Making.{picture1, picture2}

-- the line of a picture with this digest: `pic SEQUENCE COUNT LAYER DIGEST` and a newline, the digest in lower case digits
abbrev pub line : Shown → List ℕ → List ℕ
line shown digest =
    codes "pic " ++ decimal shown.sequence ++ codes " " ++ signed_decimal shown.count ++ codes " "
    ++ decimal shown.layer ++ codes " " ++ encode_lower digest ++ codes "\n"

-- the lines of pictures that are shown, in their order
abbrev pub lines : {P : Type 0} → (P → List ℕ) → List (Shown × P) → List ℕ
lines digest pictures = text_of (λ shown pic. line shown (digest pic)) pictures

-- the text of output pictures, in format 1 and in format 2: the line of each, with the digest that its term is rebuilt to
abbrev pub digest_text1 : List Decoded → List ℕ
digest_text1 pictures = lines (λ (pic : Digest32). pic.bytes) (showings picture1 pictures)

abbrev pub digest_text2 : List Decoded → List ℕ
digest_text2 pictures = lines (λ (pic : Digest2). pic.bytes) (showings picture2 pictures)
