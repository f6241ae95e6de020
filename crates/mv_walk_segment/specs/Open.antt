-- What the latest picture of an access unit stands for, to which later segments belong (7.4.2.4.4, 7.4.7.1). Histories have the
-- latest first.
use Rattle.std.specs.Prelude.{◌≡◌, ℕ, Bool, true, false, ◌&&◌, List, Option, Some, None, is_some, option_map, nat_eq, Result, Ok, Err, ⊤, IfSome}
use Rattle.std.specs.List.{find}
use Rattle.std.specs.Option.{option_or}
use Rattle.mv_syntax.specs.Words.{◌otherwise◌, or_zero}
use Rattle.mv_rules.specs.declared.rule.Rule.{Rule}
use Rattle.mv_units.specs.declared.head.UnitHead.{UnitHead}
use Rattle.mv_vps.specs.Vps.{WholeVps}
use Rattle.mv_slice.specs.declared.slice.SliceHead.{SliceHead}
use Rattle.mv_pictures.specs.Layers.{whole}
use Rattle.mv_pictures.specs.AccessUnits.{Placed}
use Rattle.mv_pictures.specs.Facts.{Fact, fact}
use Rattle.mv_pictures.specs.History.{judged}
use Rattle.mv_pictures.specs.SliceFields.{num_pic_total_curr}
use Rattle.mv_pictures.specs.Judged.{Judged, au, in_au, is_picture, is_slice, layer, of_layer, vps_at}
use Rattle.mv_pictures.specs.Items as items
use Rattle.mv_pictures.specs.Look.{in_sequence, look}
use Rattle.mv_pictures.specs.SliceRules.{address}
use Rattle.mv_reflists.specs.Sizes.{tags, total}
use Rattle.mv_tried.specs.Finer.{agreement_cases, facts_in}
use Rattle.mv_tried.specs.Tried.{first_of, list_cases}
use Rattle.mv_walk_segment.specs.declared.fault.SegmentFault.{SegmentFault}
use Rattle.mv_walk_segment.specs.OpenValue.{DecodedValue, OpenValue}
use Rattle.mv_walk_segment.specs.Serving.{context_by, sets_by}

-- ---- What it stands for

-- a slice segment of a layer in an access unit
abbrev pub is_segment_of : ℕ → ℕ → Judged → Bool
is_segment_of n current d = is_slice d.fact && (of_layer n d && in_au current d)

-- the references of a decoded picture with this first segment, and the lists of the latest one
pub record AreLists (decoded : DecodedValue) (first last : Judged) : Type 0 where
  pub tags_are : first.tags ≡ tags decoded.sizes
  pub total_is : total decoded.sizes ≡ num_pic_total_curr first.fact
  pub lists_are : last.lists ≡ decoded.lists

-- the latest picture of a history is of this access unit: its first segment, and the latest one of its layer, both among the
-- units of its layer in the sequence too; the head, the sets, the context and the header of the first one, and the address of
-- the latest one; and whether the picture is decoded
pub record IsOpen (vps : WholeVps) (opened : OpenValue) (past : List Judged) (current : ℕ) : Type 0 where
  pub first : Judged
  pub last : Judged
  pub picture : find (λ (d : Judged). is_picture d.fact) past ≡ Some first
  pub au_is : au first.fact ≡ current
  pub segment : find (is_segment_of (layer first.fact) current) past ≡ Some last
  pub own_picture : find (λ (d : Judged). is_picture d.fact && in_au current d) (in_sequence past (layer first.fact)) ≡ Some first
  pub own_segment : find (λ (d : Judged). is_slice d.fact && in_au current d) (in_sequence past (layer first.fact)) ≡ Some last
  pub vps_is : whole (vps_at first.fact) ≡ Some vps
  pub head_is : first.fact.placed.item.head ≡ opened.head
  pub sets_are : first.fact.sets ≡ sets_by opened.served.active
  pub context_is : first.fact.context ≡ Some (context_by vps opened.served.active opened.head)
  pub opening_is : first.fact.placed.item.opening ≡ Some opened.first.opening
  pub header_is : first.fact.header ≡ Some (Ok opened.first)
  pub address_is : opened.address ≡ address last.fact
  pub decoded_is : first.decoded ≡ is_some opened.decoded
  pub lists_are : IfSome opened.decoded (λ decoded. AreLists decoded first last)

-- the same where there is one; else the access unit has no picture
abbrev pub Stands : WholeVps → Option OpenValue → List Judged → ℕ → Type 0
Stands vps (Some opened) past current = IsOpen vps opened past current
Stands vps None past current = (option_map (in_au current) (find (λ (d : Judged). is_picture d.fact) past) otherwise false) ≡ false

-- its sets serve a later segment of its layer that names the same picture parameter set
abbrev pub serves : OpenValue → UnitHead → ℕ → Bool
serves opened head id = nat_eq opened.head.layer head.layer && nat_eq id opened.first.opening.slice_pic_parameter_set_id

-- ---- Its first segment

-- the first segment of a picture, and what is kept of it
pub record IsFirst (vps : WholeVps) (opened : OpenValue) (past : List Judged) (p : Fact) : Type 0 where
  pub slice : is_slice p ≡ true
  pub picture : is_picture p ≡ true
  pub vps_is : whole (vps_at p) ≡ Some vps
  pub head_is : p.placed.item.head ≡ opened.head
  pub sets_are : p.sets ≡ sets_by opened.served.active
  pub context_is : p.context ≡ Some (context_by vps opened.served.active opened.head)
  pub opening_is : p.placed.item.opening ≡ Some opened.first.opening
  pub header_is : p.header ≡ Some (Ok opened.first)
  pub address_is : opened.address ≡ or_zero opened.first.address.slice_segment_address
  pub decoded_is : (judged past p).decoded ≡ is_some opened.decoded
  pub lists_are : IfSome opened.decoded (λ decoded. AreLists decoded (judged past p) (judged past p))

-- ---- A later segment of it

-- the next slice segment, of its layer and no first one, with its header
pub record IsNext (vps : WholeVps) (opened : OpenValue) (head : UnitHead) (header : SliceHead) (past : List Judged) (q : Placed) : Type 0 where
  pub stands : IsOpen vps opened past q.au
  pub slice : items.is_slice q.item ≡ true
  pub later : items.is_picture q.item ≡ false
  pub vps_is : whole q.item.at ≡ Some vps
  pub head_is : q.item.head ≡ head
  pub layer_is : head.layer ≡ opened.head.layer
  pub opening_is : q.item.opening ≡ Some header.opening
  pub header_is : (fact (facts_in past) q).header ≡ Some (Ok header)

pub record HasNext (vps : WholeVps) (opened : OpenValue) (head : UnitHead) (header : SliceHead) : Type 0 where
  pub past : List Judged
  pub placed : Placed
  pub next : IsNext vps opened head header past placed

-- the rule that it breaks first of those on the fields and the addresses of later segments, and on lists
abbrev pub later_rule : List Judged → Fact → Option Rule
later_rule past p = option_or (first_of (agreement_cases (facts_in past) p)) (first_of (list_cases (look past p) p))

-- it breaks none, or this one first; no memory is taken
abbrev pub Takes : Result ⊤ SegmentFault → Option Rule → Type 0
Takes (Ok done) rule = rule ≡ None
Takes (Err (SegmentFault.Refused broken)) rule = rule ≡ Some broken
Takes (Err SegmentFault.Memory) rule = ⊥

-- what stays as it is
pub record Keeps (old new : OpenValue) : Type 0 where
  pub head_is : new.head ≡ old.head
  pub served_is : new.served ≡ old.served
  pub first_is : new.first ≡ old.first
  pub sizes_are : option_map (λ (d : DecodedValue). d.sizes) new.decoded ≡ option_map (λ (d : DecodedValue). d.sizes) old.decoded
