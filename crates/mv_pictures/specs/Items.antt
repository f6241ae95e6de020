-- Items: what each unit is by itself and by the video parameter sets up to it. Histories of units have the latest first.
use Rattle.std.specs.Prelude.{ℕ, Bool, true, false, not, ◌&&◌, List, Option, Some, None, Ok, Err, is_none, option_map, option_and_then, nat_eq, bytes_eq, if◌then◌else◌}
use Rattle.std.specs.List.{find}
use Rattle.mv_history.specs.History.{run}
use Rattle.mv_syntax.specs.Bits.{byte_bits}
use Rattle.mv_syntax.specs.inner.Reader.{read}
use Rattle.mv_syntax.specs.Words.{◌otherwise◌, is_set}
use Rattle.mv_units.specs.declared.head.UnitHead.{UnitHead}
use Rattle.mv_units.specs.Head.{head}
use Rattle.mv_units.specs.Escapes.{payload}
use Rattle.mv_vps.specs.Vps.{WholeVps}
use Rattle.mv_slice.specs.declared.opening.SliceOpening.{SliceOpening}
use Rattle.mv_slice.specs.Opening.{opening}
use Rattle.mv_pictures.specs.Kinds.{is_slice_kind, is_vps_kind}
use Rattle.mv_pictures.specs.Carried.{Carried, carried_vps}
use Rattle.mv_pictures.specs.Layers.{InForce, knows, keeps}

-- a unit's bytes and head; of a slice segment the fields up to the id of its picture parameter set, where they read; and
-- the video parameter set in force before the unit, and at it
pub record Item : Type 0 where
  pub bytes : List ℕ
  pub head : UnitHead
  pub opening : Option SliceOpening
  pub before : InForce
  pub at : InForce

-- a video parameter set is one of layer 0; one of another layer is passed over (this project's profile)
abbrev pub is_vps_head : UnitHead → Bool
is_vps_head h = is_vps_kind h.kind && nat_eq h.layer 0

abbrev pub is_vps : Item → Bool
is_vps i = is_vps_head i.head

-- the video parameter set in force behind some units: the latest
unfoldable pub vps_behind : List Item → InForce
vps_behind past = option_and_then (λ (i : Item). i.at) (find is_vps past)

-- the first fields of a slice segment (7.3.6.1)
unfoldable pub opening_of : UnitHead → List ℕ → Option SliceOpening
opening_of h bytes = elim (is_slice_kind h.kind) [
  | true ↦ elim (read (opening h.kind) (byte_bits (payload bytes))) [ Ok x ↦ Some x.0 | Err fault ↦ None ]
  | false ↦ None
]

-- the item of a unit behind others
unfoldable pub item : List Item → List ℕ → Item
item past u = record {
  bytes = u;
  head = head u;
  opening = opening_of (head u) u;
  before = vps_behind past;
  at = if is_vps_head (head u) then Some (carried_vps (head u) u) else vps_behind past;
}

unfoldable pub items : List (List ℕ) → List Item
items us = run item us

-- ---- What an item is

-- the same payload, where both have one
abbrev pub same_vps : Carried WholeVps → Carried WholeVps → Bool
same_vps a b = bytes_eq a.payload b.payload

-- a video parameter set that is the first
abbrev pub is_first_vps : Item → Bool
is_first_vps i = is_vps i && is_none i.before

-- a changed one: another payload than that of the one before
unfoldable pub turns : Item → Bool
turns i = is_vps i && (option_map (λ old. option_map (λ new. not (same_vps old new)) i.at otherwise false) i.before otherwise false)

-- not a stray: the video parameter set in force at it has its layer (this project's profile)
abbrev pub is_known : Item → Bool
is_known i = knows i.at i.head.layer

-- a slice segment, and one that is the first of its picture
abbrev pub is_slice : Item → Bool
is_slice i = is_known i && is_slice_kind i.head.kind

abbrev pub is_first_segment : Option SliceOpening → Bool
is_first_segment first_fields = option_map (λ (o : SliceOpening). is_set o.first_slice_segment_in_pic_flag) first_fields otherwise false

abbrev pub is_picture : Item → Bool
is_picture i = is_slice i && is_first_segment i.opening

-- it is kept for output layer set o, by the video parameter set in force at it
unfoldable pub stays : ℕ → Item → Bool
stays o i = keeps o i.at i.head.layer
