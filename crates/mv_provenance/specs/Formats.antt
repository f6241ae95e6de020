-- The bytes of a picture's parts, in format 1 and in format 2 of its digest (this project's profile). A number of several bytes has
-- its most significant byte first.
use Rattle.std.specs.Prelude.{ℕ, ℤ, List, ◌∷◌, ◌++◌, length}
use Rattle.std.specs.Int.{w32, cast_unsigned, to_be_bytes}
use Rattle.mv_pictures.specs.Terms.{Segment, Start, Tag, before, after, long, inter_zero, inter_one}
use Rattle.mv_rebuild.specs.Parts.{Part, begins, refers, has}
use Rattle.mv_provenance.specs.declared.bound.Digest2.{Digest2}
use Rattle.mv_provenance.specs.declared.digest.Digest32.{Digest32}

-- ---- Numbers, payloads, lists

-- a number in four bytes, and a signed one as its two's complement
abbrev pub four_bytes : ℕ → List ℕ
four_bytes n = to_be_bytes w32 n

abbrev pub four_signed_bytes : ℤ → List ℕ
four_signed_bytes z = to_be_bytes w32 (cast_unsigned w32 z)

-- a payload: its length in four bytes, and its bytes
abbrev pub payload_bytes : List ℕ → List ℕ
payload_bytes payload = four_bytes (length payload) ++ payload

-- the payloads of the video, sequence and picture parameter set
abbrev pub sets_bytes : List ℕ → List ℕ → List ℕ → List ℕ
sets_bytes vps sps pps = payload_bytes vps ++ payload_bytes sps ++ payload_bytes pps

-- a reference picture list: its length in one byte, and its places in one byte each
abbrev pub list_bytes : List ℕ → List ℕ
list_bytes places = length places ∷ places

-- ---- The start

-- `mvp1`, the layer in one byte, the count in four, the three payloads
abbrev pub start_bytes1 : Start → List ℕ
start_bytes1 s =
    0x6D ∷ 0x76 ∷ 0x70 ∷ 0x31 ∷ s.layer ∷ (four_signed_bytes s.count ++ sets_bytes s.vps s.sps s.pps)

-- `mvp2`, the layer in one byte, the view in four, the count in four, the three payloads
abbrev pub start_bytes2 : Start → List ℕ
start_bytes2 s =
    0x6D ∷ 0x76 ∷ 0x70 ∷ 0x32 ∷ s.layer
    ∷ (four_bytes s.view ++ four_signed_bytes s.count ++ sets_bytes s.vps s.sps s.pps)

-- ---- A reference

abbrev pub kind_of : Tag → ℕ
kind_of before = 0
kind_of after = 1
kind_of long = 2
kind_of inter_zero = 3
kind_of inter_one = 4

-- whether it is marked as used for long-term reference, as pictures of other layers are (8.3.2, F.8.1.6): 1 or 0
abbrev pub mark_of : Tag → ℕ
mark_of before = 0
mark_of after = 0
mark_of long = 1
mark_of inter_zero = 1
mark_of inter_one = 1

-- 1, its kind in one byte, and its digest
abbrev pub reference_bytes1 : Tag → Digest32 → List ℕ
reference_bytes1 tag pic = 1 ∷ kind_of tag ∷ pic.bytes

-- 1, its kind in one byte, its mark in one byte, its view in four, its count in four, and its digest
abbrev pub reference_bytes2 : Tag → Digest2 → List ℕ
reference_bytes2 tag pic =
    1 ∷ kind_of tag ∷ mark_of tag ∷ (four_bytes pic.view ++ four_signed_bytes pic.count ++ pic.bytes)

-- ---- A slice segment, in both formats

-- 2, the unit's length in four bytes, the whole unit, and the two lists
abbrev pub segment_bytes : Segment → List ℕ
segment_bytes s =
    2 ∷ (four_bytes (length s.bytes) ++ s.bytes ++ list_bytes s.lists.list0 ++ list_bytes s.lists.list1)

-- ---- Any part

abbrev pub part_bytes1 : Part Digest32 → List ℕ
part_bytes1 (begins s) = start_bytes1 s
part_bytes1 (refers tag pic) = reference_bytes1 tag pic
part_bytes1 (has s) = segment_bytes s

abbrev pub part_bytes2 : Part Digest2 → List ℕ
part_bytes2 (begins s) = start_bytes2 s
part_bytes2 (refers tag pic) = reference_bytes2 tag pic
part_bytes2 (has s) = segment_bytes s
