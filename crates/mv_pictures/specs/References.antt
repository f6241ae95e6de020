-- The references of a decoded picture, each with its term (8.3.2, F.8.1.6, G.8.1.3), and its own term.
use Rattle.std.specs.Prelude.{ℕ, pos, Bool, not, ◌&&◌, ◌||◌, List, [], ◌++◌, map, reverse, Option, option_map, nat_le, int_lt, if◌then◌else◌}
use Rattle.std.specs.List.{filter, filter_map, find}
use Rattle.mv_syntax.specs.Words.{◌otherwise◌}
use Rattle.mv_pictures.specs.Carried.{Carried}
use Rattle.mv_pictures.specs.Layers.{view}
use Rattle.mv_pictures.specs.Facts.{Fact}
use Rattle.mv_pictures.specs.SliceFields.{Aim, Entry, at_delta, at_lsb, at_cycle, entries}
use Rattle.mv_pictures.specs.Terms.{Tag, Term, Start, Segment, same_tag, before, after, long, inter_zero, inter_one, picture}
use Rattle.mv_pictures.specs.Judged.{Judged, layer, au, vps_at, is_slice, in_au}
use Rattle.mv_pictures.specs.Look.{Look}
use Rattle.mv_pictures.specs.Starts.{is_decoded}
use Rattle.mv_pictures.specs.Held.{Held, match_of}

-- ---- The term of a picture, among the units of its layer

abbrev pub payload_of : {A : Type 0} → Option (Carried A) → List ℕ
payload_of set = option_map (λ c. c.payload) set otherwise []

unfoldable pub start_of : Judged → Start
start_of d = record {
  layer = layer d.fact;
  view = view (vps_at d.fact) (layer d.fact);
  count = d.count otherwise pos 0;
  vps = payload_of (vps_at d.fact);
  sps = payload_of d.fact.sets.sps;
  pps = payload_of d.fact.sets.pps;
}

abbrev pub segment : Judged → Segment
segment d = record { bytes = d.fact.placed.item.bytes; lists = d.lists }

-- its segments, in order: the slice segments of its access unit
unfoldable pub segments_in : List Judged → Judged → List Segment
segments_in own d = reverse (map segment (filter (λ (e : Judged). is_slice e.fact && in_au (au d.fact) e) own))

unfoldable pub term_in : List Judged → Judged → Term
term_in own d = picture (start_of d) d.references (segments_in own d)

-- ---- The used entries of the reference picture set

-- an entry's part: a short-term one by the sign of its delta, or the long-term part
unfoldable pub tag_of : Aim → Tag
tag_of (at_delta delta) = if int_lt delta (pos 0) then before else after
tag_of (at_lsb bits) = long
tag_of (at_cycle bits cycle) = long

-- a used entry of a part
abbrev pub is_used : Tag → Entry → Bool
is_used tag e = e.used && same_tag tag (tag_of e.aim)

-- the matches of the used entries of a part, in their order
unfoldable pub matched : Look → Fact → Tag → List (Tag × Term)
matched l p tag = map (λ (h : Held). (tag, term_in l.own h.it)) (filter_map (match_of l p) (filter (is_used tag) (entries p)))

-- ---- Inter-layer references

-- the decoded picture of the access unit among the units of a layer, with its term
unfoldable pub decoded_in : Fact → List Judged → Option Judged
decoded_in p units = find (λ (d : Judged). d.decoded && in_au (au p) d) units

abbrev pub with_term : Fact → List Judged → Option (Judged × Term)
with_term p units = option_map (λ d. (d, term_in units d)) (decoded_in p units)

-- those of the active reference layers, in their order
unfoldable pub inter_layer : Look → Fact → List (Judged × Term)
inter_layer l p = filter_map (with_term p) l.across

-- ViewId of the picture, of layer 0 and of the reference: the reference stands on the side of the picture's view on which
-- layer 0 stands, or has one of their views (G.8.1.3)
abbrev pub is_side_of_base : ℕ → ℕ → ℕ → Bool
is_side_of_base v v0 vr = (nat_le v v0 && nat_le v vr) || (nat_le v0 v && nat_le vr v)

unfoldable pub is_zero_side : Fact → Judged → Bool
is_zero_side p d = is_side_of_base (view (vps_at p) (layer p)) (view (vps_at p) 0) (view (vps_at p) (layer d.fact))

unfoldable pub inter_zeros : Look → Fact → List (Tag × Term)
inter_zeros l p = map (λ (r : Judged × Term). (inter_zero, r.1)) (filter (λ (r : Judged × Term). is_zero_side p r.0) (inter_layer l p))

unfoldable pub inter_ones : Look → Fact → List (Tag × Term)
inter_ones l p = map (λ (r : Judged × Term). (inter_one, r.1)) (filter (λ (r : Judged × Term). not (is_zero_side p r.0)) (inter_layer l p))

-- ---- All references, in the order in which lists count them

unfoldable pub references : Look → Fact → List (Tag × Term)
references l p =
    if is_decoded l p
    then matched l p before ++ matched l p after ++ matched l p long ++ inter_zeros l p ++ inter_ones l p
    else []

unfoldable pub tags : Look → Fact → List Tag
tags l p = map (λ (r : Tag × Term). r.0) (references l p)
