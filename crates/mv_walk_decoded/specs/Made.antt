-- What is made of a decoded picture, by the values that the steps take.
use Rattle.std.specs.Prelude.{◌≡◌, ◌<◌, ◌≤◌, ℕ, ℤ, List, All, AllPairs, length, Option, Some, None, IfSome, Result, Ok, Err, slice_set}
use Rattle.std.specs.Option.{option_or}
use Rattle.mv_rules.specs.declared.rule.Rule.{Rule}
use Rattle.mv_sets.specs.Sets.{ActiveValue}
use Rattle.mv_vps.specs.Vps.{WholeVps}
use Rattle.mv_slice.specs.Context.{SliceContextValue}
use Rattle.mv_slice.specs.Slice.{header_layers}
use Rattle.mv_slice.specs.declared.slice.SliceHead.{SliceHead}
use Rattle.mv_dpb.specs.declared.held.Held.{Held as InBuffer}
use Rattle.mv_dpb.specs.declared.held.Keep.{Keep}
use Rattle.mv_rps.specs.declared.counts.PocAsk.{PocAsk}
use Rattle.mv_rps.specs.Asked.{counted}
use Rattle.mv_rps.specs.RefSet.{RefSetValue}
use Rattle.mv_rps.specs.Resolving.{is_after, is_before, is_long, kept_of, part}
use Rattle.mv_rps.specs.declared.resolved.Resolved.{Resolved}
use Rattle.mv_reflists.specs.declared.inter_layer_sets.Active2.{Active2}
use Rattle.mv_reflists.specs.InterLayer.{InterLayerSets}
use Rattle.mv_reflists.specs.Lists.{lists}
use Rattle.mv_reflists.specs.declared.sizes.Sizes.{Sizes}
use Rattle.mv_walk_layer.specs.LayerValue.{LayerValue, found, with_count}
use Rattle.mv_walk_order.specs.OrderValues.{OrdersValue}
use Rattle.mv_walk_decoded.specs.declared.asked.First.{First}
use Rattle.mv_walk_decoded.specs.declared.decided.Decided.{Decided}
use Rattle.mv_walk_decoded.specs.declared.references.Counted.{Counted}
use Rattle.mv_walk_decoded.specs.Actives.{actives_at, in_place, layer_of, sets_refuse}
use Rattle.mv_walk_decoded.specs.Asked.{asked_by, put_out_in}
use Rattle.mv_walk_decoded.specs.Making.{layers_refuse, lists_refuse, order_after, order_refuses, references_refuse, set_by, sets_between, sizes_by}

-- what a set makes of a buffer of so many pictures, of which a picture finds these held
pub record IsResolved (set : RefSetValue) (held : List InBuffer) (room : ℕ) (v : Resolved) : Type 0 where
  pub keep : v.keep.items ≡ kept_of set held
  pub before : v.before.items ≡ part is_before set held
  pub after : v.after.items ≡ part is_after set held
  pub long : v.long.items ≡ part is_long set held
  pub rising : AllPairs (λ (k l : Keep). k.place < l.place) v.keep.items
  pub within : All (λ (k : Keep). k.place < room) v.keep.items
  pub few : length v.keep.items ≤ length set.entries
  pub few_entries : length set.entries ≤ 15

-- a picture's count, and what its set makes of its layer's buffer
pub record IsCounted {P : Type 0} (own : LayerValue P) (first : First) (ctx : SliceContextValue) (header : SliceHead) (v : Counted) : Type 0 where
  pub count : counted own.counts (asked_by first ctx header) ≡ Ok v.count
  pub resolved : IsResolved (set_by ctx header v.count) (found first.start own) (length own.buffer) v.resolved

-- how many references these are of each part
abbrev pub sizes_in : Resolved → InterLayerSets → Sizes
sizes_in resolved between = record {
  before = length resolved.before.items;
  after = length resolved.after.items;
  long = length resolved.long.items;
  zero = length between.zero;
  one = length between.one;
}

-- a picture with these references, and with the lists of its first segment
pub record IsListed (c : Counted) (between : InterLayerSets) (ctx : SliceContextValue) (header : SliceHead) (v : Decided) : Type 0 where
  pub count : v.count ≡ c.count
  pub resolved : v.resolved ≡ c.resolved
  pub between_are : v.inter_layer ≡ between
  pub sizes : v.sizes ≡ sizes_in c.resolved between
  pub lists_are : IfSome header.full (λ full. v.lists ≡ lists (sizes_in c.resolved between) ctx full)
  pub put_out : v.put_out ≡ put_out_in header.full

-- ---- All steps

-- the values that they take: the layers, the order, the sets, the context, the header and where the segment stands
pub record Given (P : Type 0) : Type 0 where
  pub layers : List (LayerValue P)
  pub order : OrdersValue
  pub vps : WholeVps
  pub active : ActiveValue
  pub ctx : SliceContextValue
  pub header : SliceHead
  pub first : First

module _ {P : Type 0} (g : Given P) where
  abbrev pub own : LayerValue P
  own = layer_of g.layers g.first.head.layer

  abbrev pub held : List InBuffer
  held = found g.first.start own

  abbrev pub asked : PocAsk
  asked = asked_by g.first g.ctx g.header

  abbrev pub count : Result ℤ Rule
  count = counted own.counts asked

  abbrev pub actives : List Active2
  actives = actives_at g.layers (in_place g.vps) g.first.head.layer g.first.au (header_layers g.ctx g.header.full)

  abbrev pub between : InterLayerSets
  between = sets_between (in_place g.vps) g.first.head.layer actives

  abbrev pub sizes : ℤ → Sizes
  sizes c = sizes_by (set_by g.ctx g.header c) held between

  -- the rules on lists and on output order
  abbrev pub listing_refuses : Result ℤ Rule → Option Rule
  listing_refuses (Err rule) = None
  listing_refuses (Ok c) =
      option_or (lists_refuse (sizes c) g.ctx g.header.full) (order_refuses (put_out_in g.header.full) g.order g.first.head.layer c)

  -- the first rule that refuses the picture, if one does
  abbrev pub refuses : Option Rule
  refuses =
      option_or (sets_refuse g.layers g.first.head.layer g.active.sps.payload g.first.start g.first.au g.active.format actives)
      (option_or (references_refuse own asked g.ctx g.header)
      (option_or (layers_refuse actives)
      (listing_refuses count)))

  -- what is made of a picture that none refuses, and what is kept then
  pub record Makes (layers_after : List (LayerValue P)) (order_behind : OrdersValue) (v : Decided) : Type 0 where
    pub counts : count ≡ Ok v.count
    pub resolved : IsResolved (set_by g.ctx g.header v.count) held (length own.buffer) v.resolved
    pub between_are : v.inter_layer ≡ between
    pub sizes_are : v.sizes ≡ sizes v.count
    pub lists_are : IfSome g.header.full (λ full. v.lists ≡ lists (sizes v.count) g.ctx full)
    pub put_out : v.put_out ≡ put_out_in g.header.full
    pub layers_are : layers_after ≡ slice_set g.layers g.first.head.layer (with_count asked own)
    pub order_is : order_behind ≡ order_after (put_out_in g.header.full) g.order g.first.head.layer g.first.au v.count
