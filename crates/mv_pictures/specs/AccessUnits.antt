-- Access units (7.4.2.4.4, F.7.4.2.4.4): each unit with the number of its access unit. Histories have the latest first.
use Rattle.std.specs.Prelude.{ℕ, ◌+◌, Bool, false, not, ◌&&◌, ◌||◌, List, length, Option, option_map, nat_eq, nat_le, if◌then◌else◌, None}
use Rattle.std.specs.List.{filter, find, list_any, last_or}
use Rattle.mv_history.specs.History.{run}
use Rattle.mv_syntax.specs.Words.{◌otherwise◌}
use Rattle.mv_pictures.specs.Kinds.{is_opening_kind}
use Rattle.mv_pictures.specs.Items.{Item, is_known, is_slice, is_picture, turns}

-- a unit that begins an access unit where the one before has its slice segments: of layer 0, and one of some types or the
-- first slice segment of a picture (7.4.2.4.4)
abbrev pub is_trigger : Item → Bool
is_trigger i = is_known i && nat_eq i.head.layer 0 && (is_opening_kind i.head.kind || is_picture i)

-- a unit with whether it begins an access unit behind another, and the number of its access unit from 0 on
pub record Placed : Type 0 where
  pub item : Item
  pub begins : Bool
  pub au : ℕ

-- a slice segment stands behind the latest trigger, or is it
unfoldable pub has_slices : List Placed → Bool
has_slices past =
    option_map (λ (q : Placed). is_slice q.item) (find (λ (q : Placed). is_slice q.item || is_trigger q.item) past) otherwise false

-- a unit behind others begins an access unit: it is a trigger, and slice segments stand behind the latest trigger
unfoldable pub begins : List Placed → Item → Bool
begins past i = is_trigger i && has_slices past

-- the number of its access unit: how many units up to it begin one behind another
unfoldable pub number : List Placed → Item → ℕ
number past i = length (filter (λ (q : Placed). q.begins) past) + (if begins past i then 1 else 0)

unfoldable pub placed : List Placed → Item → Placed
placed past i = record { item = i; begins = begins past i; au = number past i }

unfoldable pub all_placed : List Item → List Placed
all_placed us = run placed us

-- ---- Questions to access units

abbrev pub layer : Placed → ℕ
layer p = p.item.head.layer

abbrev pub tid : Placed → ℕ
tid p = p.item.head.tid

abbrev pub in_au : ℕ → Placed → Bool
in_au n q = nat_eq q.au n

-- the slice segments of access unit n, the latest first, and its pictures
unfoldable pub slices_of : ℕ → List Placed → List Placed
slices_of n past = filter (λ (q : Placed). is_slice q.item && in_au n q) past

unfoldable pub pictures_of : ℕ → List Placed → List Placed
pictures_of n past = filter (λ (q : Placed). is_picture q.item && in_au n q) past

-- the first slice segment of access unit n among those before a unit
unfoldable pub first_slice_of : ℕ → List Placed → Option Placed
first_slice_of n past = last_or None (slices_of n past)

-- the picture to which a segment belongs that isn't a first one: the latest, where it is of its layer and access unit
unfoldable pub is_own_picture : Placed → Placed → Bool
is_own_picture p q = nat_eq (layer q) (layer p) && in_au p.au q

-- ---- The rules that are tried on access units (this project's profile)

-- NoBase: the first slice segment of an access unit is of a layer above 0
unfoldable pub no_base : List Placed → Placed → Bool
no_base past p = is_slice p.item && not (nat_eq (layer p) 0) && nat_eq (length (slices_of p.au past)) 0

-- LayerOrder: a first segment's layer isn't above the layers of the access unit's earlier pictures
unfoldable pub layer_order : List Placed → Placed → Bool
layer_order past p = is_picture p.item && list_any (λ q. nat_le (layer p) (layer q)) (pictures_of p.au past)

-- OrphanSlice: a segment that isn't a first one has no picture of its layer as the access unit's last picture
unfoldable pub orphan_slice : List Placed → Placed → Bool
orphan_slice past p =
    is_slice p.item && not (is_picture p.item)
    && not (option_map (is_own_picture p) (find (λ (q : Placed). is_picture q.item) past) otherwise false)

-- TidDiffers: a first segment's TemporalId isn't that of the access unit's first slice segment
unfoldable pub tid_differs : List Placed → Placed → Bool
tid_differs past p =
    is_picture p.item && (option_map (λ q. not (nat_eq (tid p) (tid q))) (first_slice_of p.au past) otherwise false)

-- the access unit has a changed video parameter set before this unit
unfoldable pub has_changed_vps : List Placed → Placed → Bool
has_changed_vps past p = list_any (λ (q : Placed). turns q.item && in_au p.au q) past
