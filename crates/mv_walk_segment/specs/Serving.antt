-- What serves a slice segment, and what is told of its header (7.4.7.1, F.7.4.7.1; this project's profile). Histories have the
-- latest first.
use Rattle.std.specs.Prelude.{◌≡◌, ℕ, true, All, List, map, Some, None, Result, Ok, Err, ⊤}
use Rattle.mv_rules.specs.declared.refusal.ReadFault.{ReadFault}
use Rattle.mv_units.specs.declared.head.UnitHead.{UnitHead}
use Rattle.mv_layers.specs.LayerInfos.{directs_of, is_known}
use Rattle.mv_vps.specs.Vps.{WholeVps}
use Rattle.mv_slice.specs.declared.slice.SliceHead.{SliceHead}
use Rattle.mv_slice.specs.Context.{SliceContextValue}
use Rattle.mv_slice.specs.Layers.{eligible}
use Rattle.mv_pictures.specs.Contexts.{direct_layer, slice_context}
use Rattle.mv_pictures.specs.Layers.{whole}
use Rattle.mv_pictures.specs.Items.{is_slice, opening_of}
use Rattle.mv_pictures.specs.AccessUnits.{Placed}
use Rattle.mv_pictures.specs.Facts.{Fact, Sets, pps_id, pps_of_unit, sps_of_unit}
use Rattle.mv_sets.specs.Sets.{ActiveValue, carried_pps, carried_sps}
use Rattle.mv_sets.specs.Store.{Stands}
use Rattle.mv_sets.specs.StoreValue.{StoreValue}
use Rattle.mv_contexts.specs.Sets.{AreSets}
use Rattle.mv_tried.specs.Segments.{lacking_set, segment_rule}
use Rattle.mv_walk_segment.specs.OpenValue.{ServedValue}

-- ---- What serves a segment

-- the sets and their format
abbrev pub sets_by : ActiveValue → Sets
sets_by active = record { pps = Some (carried_pps active.pps); sps = Some (carried_sps active.sps); format = Some active.format }

-- the layers that a segment with this head may refer to
abbrev pub eligible_at : WholeVps → UnitHead → List ℕ
eligible_at vps head = eligible head.tid (map (direct_layer vps head.layer) (directs_of vps.derived.layers head.layer))

-- what the header of a segment with this head takes from sets
abbrev pub context_by : WholeVps → ActiveValue → UnitHead → SliceContextValue
context_by vps active head = slice_context vps head active.format active.sps.value.0 active.pps.value.0

-- it can serve a segment with this head: its sets are valid, its layers are those that the segment may refer to, and the video
-- parameter set has the segment's layer
pub record IsServing (vps : WholeVps) (head : UnitHead) (served : ServedValue) : Type 0 where
  pub known : is_known vps.derived.layers head.layer ≡ true
  pub sets : AreSets served.active
  pub layers : served.eligible ≡ eligible_at vps head

-- ---- A segment in a stream

-- a slice segment with this head that names this picture parameter set, and the video parameter set in force at it
pub record IsSegment (vps : WholeVps) (head : UnitHead) (id : ℕ) (q : Placed) : Type 0 where
  pub slice : is_slice q.item ≡ true
  pub vps_is : whole q.item.at ≡ Some vps
  pub head_is : q.item.head ≡ head
  pub opening_is : q.item.opening ≡ opening_of q.item.head q.item.bytes
  pub id_is : pps_id q ≡ Some id

-- what a unit carries is what its bytes say
pub record IsCarried (f : Fact) : Type 0 where
  pub sps_is : f.sps_unit ≡ sps_of_unit f.placed.item
  pub pps_is : f.pps_unit ≡ pps_of_unit f.placed.item

-- the sets that are kept stand for the units before such a segment
pub record IsInStream (store : StoreValue) (vps : WholeVps) (head : UnitHead) (id : ℕ) : Type 0 where
  pub past : List Fact
  pub placed : Placed
  pub stands : Stands store past
  pub carried : All IsCarried past
  pub segment : IsSegment vps head id placed

-- ---- What is told

-- what is named is there, or the rule on what lacks; of want of memory nothing is told
abbrev pub Names : Result ServedValue ReadFault → Sets → Type 0
Names (Ok served) named = named ≡ sets_by served.active
Names (Err (ReadFault.Refused rule)) named = lacking_set named.pps named.sps named.format ≡ Some rule
Names (Err ReadFault.Memory) named = ⊤

-- the header of a segment, whose first fields are its own, and that breaks no rule by its sets and its header
pub record IsHeader (header : SliceHead) (p : Fact) : Type 0 where
  pub none : segment_rule p ≡ None
  pub header_is : p.header ≡ Some (Ok header)
  pub opening_is : p.placed.item.opening ≡ Some header.opening

-- it, or the rule that the segment breaks first
abbrev pub Reads : Result SliceHead ReadFault → Fact → Type 0
Reads (Ok header) p = IsHeader header p
Reads (Err (ReadFault.Refused rule)) p = segment_rule p ≡ Some rule
Reads (Err ReadFault.Memory) p = ⊤
