-- What a picture is rebuilt from, part by part, for pictures of any kind (this project's profile).
use Rattle.std.specs.Prelude.{ℕ, List, ⊤}
use Rattle.mv_pictures.specs.Terms.{Segment, Start, Tag, before, after, long, inter_zero, inter_one}
use Rattle.mv_rebuild.specs.declared.rebuild.PicStart.{PicStart}
use Rattle.mv_rebuild.specs.declared.rebuild.RefKind.{RefKind}
use Rattle.mv_rebuild.specs.declared.rebuild.RefKind.TheVariants.{Before, After, Long, InterZero, InterOne}

-- what it is begun with, a reference, or a slice segment
pub data Part (P : Type 0) : Type 0 where
  begins : Start → Part P
  refers : Tag → P → Part P
  has : Segment → Part P

-- which parts a picture in the making stands for, and the picture that they give
pub record Making (W P : Type 0) : Type 1 where
  pub stands : W → List (Part P) → Type 0
  pub picture : List (Part P) → P

-- ---- The parts as the calls are handed them

abbrev pub tag_of : RefKind → Tag
tag_of Before = before
tag_of After = after
tag_of Long = long
tag_of InterZero = inter_zero
tag_of InterOne = inter_one

abbrev pub start_of : PicStart → Start
start_of at = record { layer = at.layer; view = at.view; count = at.count; vps = at.vps.now; sps = at.sps.now; pps = at.pps.now }

abbrev pub started : {P : Type 0} → PicStart → Part P
started at = begins (start_of at)

abbrev pub referred : {P : Type 0} → RefKind → P → Part P
referred kind pic = refers (tag_of kind) pic

abbrev pub segmented : {P : Type 0} → List ℕ → List ℕ → List ℕ → Part P
segmented unit list0 list1 = has (record { bytes = unit; lists = record { list0 = list0; list1 = list1 } })

-- ---- No pictures

abbrev pub no_pictures : Making ⊤ ⊤
no_pictures = record { stands = λ work parts. ⊤; picture = λ parts. tt }
