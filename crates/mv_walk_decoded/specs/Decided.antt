-- A decoded picture of a stream, and what is decided of it by its first segment (8.3, F.8.3, G.8.1.3, C.5.2). Histories have the
-- latest first.
use Rattle.std.specs.Prelude.{◌≡◌, ◌<◌, ◌≤◌, ℕ, ℤ, Bool, true, false, not, List, ◌∷◌, ◌++◌, All, AllPairs, drop, length, map, nat_eq, Option, Some, None, slice_set, if◌then◌else◌}
use Rattle.std.specs.List.{filter, filter_map}
use Rattle.mv_dpb.specs.declared.held.Keep.{Keep}
use Rattle.mv_pictures.specs.AccessUnits.{Placed}
use Rattle.mv_pictures.specs.Facts.{Fact, fact}
use Rattle.mv_pictures.specs.History.{judged}
use Rattle.mv_pictures.specs.Judged.{Judged, au, is_picture, layer, vps_at}
use Rattle.mv_pictures.specs.Layers.{whole}
use Rattle.mv_pictures.specs.Look.{Look, look}
use Rattle.mv_pictures.specs.Starts.{is_decoded, is_sequence_start, is_start}
use Rattle.mv_pictures.specs.Counts.{base_count, count}
use Rattle.mv_pictures.specs.Held.{Held, held, match_of}
use Rattle.mv_pictures.specs.PictureRules.{poc_mismatch}
use Rattle.mv_pictures.specs.References.{inter_layer, is_used, is_zero_side}
use Rattle.mv_pictures.specs.Rules.{Case, output_cases}
use Rattle.mv_pictures.specs.SliceFields.{entries, head_of, is_put_out, num_pic_total_curr}
use Rattle.mv_pictures.specs.Terms.{Tag, Term, before, after, long}
use Rattle.mv_rps.specs.Resolving.{kept_of}
use Rattle.mv_rps.specs.Standing.{au_kept, set_for, told}
use Rattle.mv_reflists.specs.Sizes.{tags, total}
use Rattle.mv_sets.specs.Sets.{carried_sps}
use Rattle.mv_tried.specs.Decoded.{decoded_cases}
use Rattle.mv_walk_layer.specs.LayerValue.{LayerValue, with_count}
use Rattle.mv_walk_layer.specs.Standing.{IsInOrder, Stands, asked_within, within}
use Rattle.mv_walk_order.specs.OrderValues.{OrdersValue}
use Rattle.mv_walk_order.specs.Orders.{AreSteady, Stands as StandsBehind, StandsBefore}
use Rattle.mv_walk_decoded.specs.Actives.{layer_of}
use Rattle.mv_walk_decoded.specs.Made.{Given}
use Rattle.mv_walk_decoded.specs.declared.decided.Decided.{Decided}

-- ---- What is asked

-- the count of the base picture of its access unit, for a picture of another layer, where it is within 32 bits
abbrev pub base_for : Look → Fact → Option ℤ
base_for l p = if nat_eq (layer p) 0 then None else within (base_count l p)

-- p is the next picture of a stream behind these units, and is decoded; it is told by its place, its sets, its context and its
-- header; what is kept of the layers stands for the units before it, unless it starts a sequence; and so does the order of output;
-- where it has the count of its access unit, all units with it are steady
pub record IsAsked {P : Type 0} (g : Given P) (past : List Judged) (p : Fact) : Type 0 where
  pub earlier : List Fact
  pub placed : Placed
  pub of_stream : p ≡ fact earlier placed
  pub picture : is_picture p ≡ true
  pub decoded : is_decoded (look past p) p ≡ true
  pub head_is : p.placed.item.head ≡ g.first.head
  pub au_is : au p ≡ g.first.au
  pub start_is : is_start (look past p) p ≡ g.first.start
  pub base_is : base_for (look past p) p ≡ g.first.base
  pub vps_is : whole (vps_at p) ≡ Some g.vps
  pub sps_is : p.sets.sps ≡ Some (carried_sps g.active.sps)
  pub format_is : p.sets.format ≡ Some g.active.format
  pub context_is : p.context ≡ Some g.ctx
  pub header_is : head_of p ≡ Some g.header
  pub layers_stand : is_sequence_start (look past p) p ≡ false → (n : ℕ) → n < 64 → Stands (layer_of g.layers n) past n None
  pub in_order : IsInOrder past p
  pub order_stands : StandsBefore g.order past (judged past p)
  pub steady : poc_mismatch (look past p) p ≡ false → AreSteady (judged past p ∷ past)

-- ---- What is decided

-- the cases that are tried on it, but NoIrap, which is tried with the states of the layers
abbrev pub decided_cases : List Judged → Fact → List Case
decided_cases past p = drop 1 (decoded_cases (look past p) p) ++ output_cases past (judged past p)

-- indexes into the pictures that are kept stand for the pictures that the used entries of a part match, by their access units
abbrev pub ArePart : Look → Fact → List Keep → Tag → List ℕ → Type 0
ArePart l p keep tag indexes =
    map (au_kept (told (held l p)) keep) indexes ≡ map (λ (h : Held). Some (au h.it.fact)) (filter_map (match_of l p) (filter (is_used tag) (entries p)))

-- the layers of the inter-layer reference pictures that pass a test
abbrev pub layers_between : Look → Fact → (Judged → Bool) → List ℕ
layers_between l p test = map (λ (r : Judged × Term). layer r.0.fact) (filter (λ (r : Judged × Term). test r.0) (inter_layer l p))

-- what is decided of a picture that breaks no rule: its count; the pictures that stay held, which are those that its entries match;
-- its references, by each part and by their number; its lists; and whether it may be put out; of the layers its own has counted it,
-- and the order of output stands for the units with it
pub record IsDecided {P : Type 0} (layers layers_after : List (LayerValue P)) (order : OrdersValue) (past : List Judged) (p : Fact) (v : Decided) : Type 0 where
  pub counts : count (look past p) p ≡ Some v.count
  pub keep : v.resolved.keep.items ≡ kept_of (set_for (look past p) p) (told (held (look past p) p))
  pub rising : AllPairs (λ (k l : Keep). k.place < l.place) v.resolved.keep.items
  pub within_buffer : All (λ (k : Keep). k.place < length (layer_of layers (layer p)).buffer) v.resolved.keep.items
  pub few : length v.resolved.keep.items ≤ 15
  pub befores : ArePart (look past p) p v.resolved.keep.items before v.resolved.before.items
  pub afters : ArePart (look past p) p v.resolved.keep.items after v.resolved.after.items
  pub longs : ArePart (look past p) p v.resolved.keep.items long v.resolved.long.items
  pub zeros : v.inter_layer.zero ≡ layers_between (look past p) p (is_zero_side p)
  pub ones : v.inter_layer.one ≡ layers_between (look past p) p (λ d. not (is_zero_side p d))
  pub tags_are : (judged past p).tags ≡ tags v.sizes
  pub total_is : total v.sizes ≡ num_pic_total_curr p
  pub few_references : total v.sizes ≤ 255
  pub lists_are : v.lists ≡ (judged past p).lists
  pub few_entries : (length v.lists.list0 ≤ 15) × (length v.lists.list1 ≤ 15)
  pub put_out : v.put_out ≡ is_put_out p
  pub own_layer : layers_after ≡ slice_set layers (layer p) (with_count (asked_within (look past p) p) (layer_of layers (layer p)))
  pub order_stands : StandsBehind order (judged past p ∷ past)
