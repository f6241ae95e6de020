-- What a decoded picture is made of, as a tree. Two pictures with equal terms are the same for every function of the bytes
-- of slice segments, parameter sets, references and lists (this project's profile).
use Rattle.std.specs.Prelude.{ℕ, ℤ, Bool, true, false, List, [], ◌∷◌}

-- which part of the reference picture set, or of the inter-layer set, a reference stands in (8.3.2, F.8.1.6):
-- RefPicSetStCurrBefore, RefPicSetStCurrAfter, RefPicSetLtCurr, RefPicSetInterLayer0, RefPicSetInterLayer1
pub data Tag : Type 0 where
  before : Tag
  after : Tag
  long : Tag
  inter_zero : Tag
  inter_one : Tag

-- whether two tags are the same
abbrev pub same_tag : Tag → Tag → Bool
same_tag before before = true
same_tag after after = true
same_tag long long = true
same_tag inter_zero inter_zero = true
same_tag inter_one inter_one = true
same_tag a b = false

-- the reference picture lists of a slice segment: places in the list of the picture's references, from 0 on
pub record Lists : Type 0 where
  pub list0 : List ℕ
  pub list1 : List ℕ

-- a slice segment: its whole unit, and its lists
pub record Segment : Type 0 where
  pub bytes : List ℕ
  pub lists : Lists

-- nuh_layer_id, ViewId, PicOrderCntVal, and the payloads of the parameter sets
pub record Start : Type 0 where
  pub layer : ℕ
  pub view : ℕ
  pub count : ℤ
  pub vps : List ℕ
  pub sps : List ℕ
  pub pps : List ℕ

-- a picture: its start, its references with their parts, each with its own term, and its segments in order
mutual
  pub data Term : Type 0 where
    picture : Start → References → List Segment → Term

  pub data References : Type 0 where
    none : References
    refers : Tag → Term → References → References

-- references given by a list
unfoldable pub references_of : List (Tag × Term) → References
references_of [] = none
references_of ((tag, term) ∷ rest) = refers tag term (references_of rest)
