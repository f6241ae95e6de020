-- The first segment of a picture: which rule it breaks, and what is kept then (8.1.3, 8.3, C.5.2, F.8.3; the rules are this
-- project's profile). Histories have the latest first.
use Rattle.std.specs.Prelude.{ℕ, ℤ, ◌+◌, ◌^◌, ◌<◌, ◌≤◌, ◌≡◌, ⊤, Bool, true, false, ◌&&◌, List, [], ◌∷◌, ◌++◌, drop, length, Option, Some, None, is_some, option_map, nat_eq, Result, Ok, Err, if◌then◌else◌}
use Rattle.std.specs.Option.{IfSome}
use Rattle.std.specs.List.{filter}
use Rattle.mv_syntax.specs.Table.{Valid}
use Rattle.mv_rules.specs.declared.rule.Rule.{Rule}
use Rattle.mv_slice.specs.Slice.{slice_header}
use Rattle.mv_pictures.specs.AccessUnits.{has_changed_vps}
use Rattle.mv_pictures.specs.Counts.{count}
use Rattle.mv_pictures.specs.Facts.{Fact, fact}
use Rattle.mv_pictures.specs.History.{judged}
use Rattle.mv_pictures.specs.Judged.{Judged, au, begins, is_picture, vps_at}
use Rattle.mv_pictures.specs.Look.{look}
use Rattle.mv_pictures.specs.PictureRules.{no_irap, poc_mismatch}
use Rattle.mv_pictures.specs.Rules.{output_cases}
use Rattle.mv_pictures.specs.Starts.{is_decoded, is_sequence_start, is_start}
use Rattle.mv_commuting.specs.HeldOneMore.{held_of}
use Rattle.mv_au.specs.declared.states.PicState.{PicState}
use Rattle.mv_au.specs.States as states
use Rattle.mv_au.specs.States.{state_of}
use Rattle.mv_tried.specs.Decoded.{decoded_cases}
use Rattle.mv_tried.specs.Finer.{facts_in, placed_in}
use Rattle.mv_tried.specs.Tried.{first_of, mid_cases}
use Rattle.mv_walk_layer.specs.LayerValue.{LatestValue, no_pictures}
use Rattle.mv_walk_layer.specs.Standing.{within}
use Rattle.mv_walk_layer.specs.Standing as layers
use Rattle.mv_walk_order.specs.Orders as orders
use Rattle.mv_walk_laws.specs.Rest.{picture_rule}
use Rattle.mv_reflists.specs.Sizes.{total}
use Rattle.mv_walk_segment.specs.Open.{AreLists}
use Rattle.mv_walk_segment.specs.Taken.{AreShort}
use Rattle.mv_walk_segment.specs.OpenValue.{DecodedValue}
use Rattle.mv_walk_segment.specs.Serving.{IsHeader, IsServing, context_by, sets_by}
use Rattle.mv_walk_sets.specs.InForce.{VpsInForceValue, carried_of}
use Rattle.mv_walk_decoded.specs.declared.asked.First.{First}
use Rattle.mv_walk.specs.declared.decoder.Decoder.{Decoder}
use Rattle.mv_walk.specs.declared.ending.Stop.{Stop}
use Rattle.mv_walk.specs.declared.first.FirstSegment.{FirstSegment}
use Rattle.mv_walk.specs.Decoders.{DecoderStands, Keeps, KeepsPictures, base_count, layer_at}

-- what a first segment has to be where it stands in some stream
pub record CanBegin (vps : VpsInForceValue) (s : FirstSegment) : Type 0 where
  pub layer : s.head.layer < 64
  pub serving : IsServing vps.value s.head s.served
  pub valid : Valid (slice_header (context_by vps.value s.served.active s.head) s.head.kind) s.header
  pub full : is_some s.header.full ≡ true
  pub vps_short : length vps.payload ≤ 65536
  pub sps_short : length s.served.active.sps.payload ≤ 65536
  pub pps_short : length s.served.active.pps.payload ≤ 65536

-- the next unit is the first segment of a picture, told by its head, its access unit, its sets and its header; with it the order of
-- output is steady where the picture has the count of its access unit, and what is held of each layer is sound where it breaks no rule
pub record IsFirst (vps : VpsInForceValue) (s : FirstSegment) (past : List Judged) (p : Fact) : Type 0 where
  pub of_stream : p ≡ fact (facts_in past) p.placed
  pub picture : is_picture p ≡ true
  pub head_is : p.placed.item.head ≡ s.head
  pub au_is : au p ≡ s.au
  pub vps_is : vps_at p ≡ Some (carried_of vps)
  pub changed_is : has_changed_vps (placed_in past) p.placed ≡ s.behind_change
  pub sets_are : p.sets ≡ sets_by s.served.active
  pub context_is : p.context ≡ Some (context_by vps.value s.served.active s.head)
  pub header_is : IsHeader s.header p
  pub rises : layers.IsInOrder past p
  pub anchored : layers.IsDecodedAnchor (judged past p)
  pub few : length past + 1 < 2 ^ 64
  pub behind_base : nat_eq s.head.layer 0 ≡ false → option_map (λ (b : Judged). nat_eq (au b.fact) s.au) (look past p).base ≡ Some true
  pub steady : poc_mismatch (look past p) p ≡ false → orders.AreSteady (judged past p ∷ past)
  pub goes_on : picture_rule past p ≡ None → (n : ℕ) → layers.IsSound (held_of (judged past p ∷ past) n)

-- it is accepted, and what becomes of it is told; or it breaks a rule; a fault of the viewer and want of memory say nothing of it
abbrev pub TakesFirst : {R W P : Type 0} → VpsInForceValue → List Judged → Fact → Decoder R W P → Result (PicState × Option ℤ) Stop → Type 0
TakesFirst vps past p new (Ok told) =
    (picture_rule past p ≡ None) × DecoderStands new (Some vps) (judged past p ∷ past) (au p) × (told ≡ (state_of (look past p) p, within (count (look past p) p)))
TakesFirst vps past p new (Err (Stop.Breaks rule)) = picture_rule past p ≡ Some rule
TakesFirst vps past p new (Err (Stop.Lacks asked count)) = ⊥
TakesFirst vps past p new (Err Stop.View) = ⊤
TakesFirst vps past p new (Err Stop.Memory) = ⊤

-- ---- Its parts

-- what becomes of it is told, and the states of layers go on; or it breaks NoIrap
abbrev pub TakesState : {R W P : Type 0} → List Judged → Fact → Decoder R W P → Result PicState Stop → Type 0
TakesState past p new (Ok state) = (no_irap (look past p) p ≡ false) × (state ≡ state_of (look past p) p) × states.Stands new.states (judged past p ∷ past)
TakesState past p new (Err (Stop.Breaks rule)) = (no_irap (look past p) p ≡ true) × (rule ≡ Rule.NoIrap)
TakesState past p new (Err (Stop.Lacks asked count)) = ⊥
TakesState past p new (Err Stop.View) = ⊥
TakesState past p new (Err Stop.Memory) = ⊤

-- before it is decoded: where it starts a sequence, nothing is left of the layers' pictures; the order of output is that of its
-- sequence, and its sequence is counted
pub record IsReady {R W P : Type 0} (d : Decoder R W P) (past : List Judged) (p : Fact) : Type 0 where
  pub all : length d.layers.items ≡ 64
  pub layers_are : is_sequence_start (look past p) p ≡ false → (n : ℕ) → n < 64 → layers.Stands (layer_at d.layers.items n) past n None
  pub forgotten : is_sequence_start (look past p) p ≡ true → (n : ℕ) → n < 64 → layer_at d.layers.items n ≡ no_pictures
  pub order_is : orders.StandsBefore d.order past (judged past p)
  pub base_is : (q : Fact) → base_count past q ≡ d.base_count
  pub pictures_are : d.pictures ≡ length (filter (λ (q : Judged). q.decoded) past)
  pub sequences_are : d.sequences ≡ length (filter begins (judged past p ∷ past))

-- it is decoded, of a layer that starts with it or doesn't
pub record IsDecoded (start : Bool) (past : List Judged) (p : Fact) : Type 0 where
  pub decoded : is_decoded (look past p) p ≡ true
  pub start_is : is_start (look past p) p ≡ start

-- what is told of a picture: its count, and where it is decoded its references, which are few, and the lists of its first segment
abbrev pub AreTold : List Judged → Fact → Option ℤ × Option DecodedValue → Type 0
AreTold past p told =
    (told.0 ≡ within (count (look past p) p)) × (is_some told.1 ≡ is_decoded (look past p) p)
    × IfSome told.1 (λ lists. AreLists lists (judged past p) (judged past p) × (total lists.sizes ≤ 255) × AreShort lists.lists)

-- the cases behind NoIrap, and before VpsMidCvs, that are tried on a decoded picture
abbrev pub decided_rule : List Judged → Fact → Option Rule
decided_rule past p = first_of (drop 1 (decoded_cases (look past p) p) ++ output_cases past (judged past p))

abbrev pub mid_rule : List Judged → Fact → Option Rule
mid_rule past p = first_of (mid_cases (placed_in past) (look past p) p)

-- a decoded picture is in the making, or it breaks a rule; where it breaks none at all, what is kept of pictures stands for it too
abbrev pub Decodes : {R W P : Type 0} → List Judged → Fact → Decoder R W P → Result (Option ℤ × Option DecodedValue) Stop → Type 0
Decodes past p new (Ok told) =
    (decided_rule past p ≡ None) × (picture_rule past p ≡ None → KeepsPictures new (judged past p ∷ past) new.making) × (is_some new.making ≡ true) × AreTold past p told
Decodes past p new (Err (Stop.Breaks rule)) = decided_rule past p ≡ Some rule
Decodes past p new (Err (Stop.Lacks asked count)) = ⊥
Decodes past p new (Err Stop.View) = ⊥
Decodes past p new (Err Stop.Memory) = ⊤

-- a picture, what becomes of which is known, is taken or breaks a rule behind NoIrap
abbrev pub taken_rule : List Judged → Fact → Option Rule
taken_rule past p = first_of ((if is_decoded (look past p) p then drop 1 (decoded_cases (look past p) p) ++ output_cases past (judged past p) else []) ++ mid_cases (placed_in past) (look past p) p)

abbrev pub TakesPicture : {R W P : Type 0} → List Judged → Fact → Decoder R W P → Result (Option ℤ × Option DecodedValue) Stop → Type 0
TakesPicture past p new (Ok told) =
    (taken_rule past p ≡ None) × (picture_rule past p ≡ None → KeepsPictures new (judged past p ∷ past) new.making) × (is_some new.making ≡ is_decoded (look past p) p) × AreTold past p told
TakesPicture past p new (Err (Stop.Breaks rule)) = taken_rule past p ≡ Some rule
TakesPicture past p new (Err (Stop.Lacks asked count)) = ⊥
TakesPicture past p new (Err Stop.View) = ⊤
TakesPicture past p new (Err Stop.Memory) = ⊤

-- ---- What a call may ask

-- what is kept stands for the units before such a segment, with the picture before it that may be in the making
pub record MayBegin {R W P : Type 0} (d : Decoder R W P) (vps : VpsInForceValue) (s : FirstSegment) : Type 0 where
  pub past : List Judged
  pub fact : Fact
  pub keeps : Keeps d past d.making
  pub first : IsFirst vps s past fact

-- none is in the making, and it is known what becomes of the segment's picture
pub record MayTake {R W P : Type 0} (d : Decoder R W P) (vps : VpsInForceValue) (s : FirstSegment) (state : PicState) : Type 0 where
  pub past : List Judged
  pub fact : Fact
  pub keeps : KeepsPictures d past None
  pub first : IsFirst vps s past fact
  pub state_is : state ≡ state_of (look past fact) fact

-- it is ready for the segment's picture, which is decoded
pub record MayDecode {R W P : Type 0} (d : Decoder R W P) (vps : VpsInForceValue) (s : FirstSegment) (start : Bool) : Type 0 where
  pub past : List Judged
  pub fact : Fact
  pub ready : IsReady d past fact
  pub first : IsFirst vps s past fact
  pub decoded : IsDecoded start past fact

-- ---- Small steps

-- a base picture that starts no sequence, with a changed video parameter set before it in its access unit
abbrev pub unchanged : {T : Type 0} → FirstSegment → T → Result T Stop
unchanged s taken = if nat_eq s.head.layer 0 && s.behind_change then Err (Stop.Breaks Rule.VpsMidCvs) else Ok taken

-- the count of the base picture of its access unit, for a picture of another layer
abbrev pub base_in : Option ℤ → ℕ → Option ℤ
base_in base layer = if nat_eq layer 0 then None else base

abbrev pub place : Option ℤ → FirstSegment → Bool → First
place base s start = record { head = s.head; au = s.au; start = start; base = base_in base s.head.layer }

-- what is kept of it as the latest decoded picture of its layer
abbrev pub latest_by : FirstSegment → LatestValue
latest_by s = record { au = s.au; payload = s.served.active.sps.payload; format = s.served.active.format }
