-- A decoded picture that is decided by its first segment: what is asked, and what each answer makes of it.
use Rattle.std.proofs.Common.{◌≡◌, ◌+◌, ◌<◌, ◌^◌, ℕ, ℤ, Bool, true, false, cond, List, ◌∷◌, length, Option, None, Some, refl, ap, sym, subst, ◌∙◌}
use Rattle.std.specs.Prelude.{Vec, All, IfErr, IfOk, OnOk, is_some, nat_eq, option_and_then, option_map, slice_set, Result, Ok, Err}
use Rattle.std.specs.Option.{IfSome}
use Rattle.std.specs.Vec.{vec_len, with_items}
use Rattle.std.proofs.lemmas.List.{get_or-set_same, length-set, with_items_is}
use Rattle.mv_units.specs.declared.head.UnitHead.{UnitHead}
use Rattle.mv_dpb.specs.declared.held.Keep.{Keep}
use Rattle.mv_pictures.specs.Counts as counts
use Rattle.mv_pictures.specs.Counts.{count}
use Rattle.mv_pictures.specs.Facts.{Fact, Sets}
use Rattle.mv_pictures.specs.History.{judged}
use Rattle.mv_pictures.specs.Judged.{Judged, au, in_au, layer}
use Rattle.mv_pictures.specs.Layers.{whole}
use Rattle.mv_pictures.specs.Look.{look}
use Rattle.mv_pictures.specs.SliceFields.{num_pic_total_curr}
use Rattle.mv_pictures.specs.Starts.{base_of, is_decoded}
use Rattle.mv_sets.specs.Sets.{ActiveValue, carried_sps}
use Rattle.mv_tried.specs.Finer.{facts_in}
use Rattle.mv_tried.specs.Tried.{first_of}
use Rattle.mv_walk_layer.specs.LayerValue.{LayerValue, no_pictures, with_count, with_decoded}
use Rattle.mv_walk_layer.specs.Standing as layers
use Rattle.mv_walk_layer.specs.Standing.{asked_within, within}
use Rattle.mv_walk_laws.specs.Rest.{picture_rule}
use Rattle.mv_walk_order.specs.OrderValues.{OrdersValue}
use Rattle.mv_walk_order.specs.Orders as orders
use Rattle.mv_walk_segment.specs.Open.{AreLists}
use Rattle.mv_walk_segment.specs.OpenValue.{DecodedValue}
use Rattle.mv_walk_segment.specs.Serving.{context_by}
use Rattle.mv_walk_sets.specs.InForce.{VpsInForceValue}
use Rattle.mv_walk_decoded.specs.Asked.{Tried}
use Rattle.mv_walk_decoded.specs.Decided.{IsAsked, IsDecided, base_for, decided_cases}
use Rattle.mv_walk_decoded.specs.Made.{Given}
use Rattle.mv_walk_decoded.specs.declared.asked.First.{First}
use Rattle.mv_walk_decoded.specs.declared.decided.Decided.{Decided}
use Rattle.mv_walk_decoded.specs.declared.fault.DecideFault.{DecideFault}
use Rattle.mv_walk.specs.Decoders.{KeepsPictures, layer_at, made_in}
use Rattle.mv_walk.specs.Ending.{of_decided}
use Rattle.mv_walk.specs.Firsts.{AreTold, Decodes, IsDecoded, IsFirst, IsReady, base_in, decided_rule, latest_by, place}
use Rattle.mv_walk.specs.declared.decoder.Decoder.{Decoder}
use Rattle.mv_walk.specs.declared.ending.Stop.{Stop}
use Rattle.mv_walk.specs.declared.first.FirstSegment.{FirstSegment}
use Rattle.mv_walk.specs.declared.making.Making.{Making}
use Rattle.mv_walk.proofs.Beginning.{fact-is, head-of}
use Rattle.mv_walk.proofs.Decoded.{decided-keeps, within-is, unbroken}

-- ---- What is asked

-- the latest base picture, where it is of an access unit, is the one of the access unit
base-here : (base : Option Judged) (a : ℕ) → option_map (λ (b : Judged). nat_eq (au b.fact) a) base ≡ Some true → option_and_then (λ (d : Judged). cond (in_au a d) (Some d) None) base ≡ base
base-here None a h = refl
base-here (Some d) a h = let e : nat_eq (au d.fact) a ≡ true = cc in ap (λ b. cond b (Some d) None) e

base-is : {R W P : Type 0} (d : Decoder R W P) (vps : VpsInForceValue) (s : FirstSegment) (past : List Judged) (p : Fact) → IsReady d past p → IsFirst vps s past p →
    base_for (look past p) p ≡ base_in d.base_count s.head.layer
unfolding counts.base_count base_of
base-is d vps s past p r f = ap (λ (h : UnitHead). cond (nat_eq h.layer 0) None (within (counts.base_count (look past p) p))) f.head_is ∙ go (nat_eq s.head.layer 0) refl
  where
    count_of : Option Judged → Option ℤ
    count_of base = within (option_and_then (λ (d : Judged). d.count) base)

    go : (b : Bool) → nat_eq s.head.layer 0 ≡ b → cond b None (within (counts.base_count (look past p) p)) ≡ cond b None d.base_count
    go true e = refl
    go false e =
        ap (λ a. count_of (option_and_then (λ (d : Judged). cond (in_au a d) (Some d) None) (look past p).base)) f.au_is
        ∙ ap count_of (base-here (look past p).base s.au (f.behind_base e)) ∙ r.base_is p

pub asked-of : {R W P : Type 0} {h : UnitHead} (g : Given P) (d : Decoder R W P) (vps : VpsInForceValue) (s : FirstSegment) (start : Bool) (past : List Judged) (p : Fact) → IsReady d past p → IsFirst vps s past p → IsDecoded start past p →
    g.layers ≡ d.layers.items → g.order ≡ d.order → g.vps ≡ vps.value → g.active ≡ s.served.active → h ≡ s.head → g.ctx ≡ context_by g.vps s.served.active h → g.header ≡ s.header → g.first ≡ place d.base_count s start →
    IsAsked g past p
asked-of {R} {W} {P} {h} g d vps s start past p r f i layers_is order_is vps_is active_is same ctx_is header_is first_is = record {
  earlier = facts_in past;
  placed = p.placed;
  of_stream = f.of_stream;
  picture = f.picture;
  decoded = i.decoded;
  head_is = f.head_is ∙ sym (ap (λ (x : First). x.head) first_is);
  au_is = f.au_is ∙ sym (ap (λ (x : First). x.au) first_is);
  start_is = i.start_is ∙ sym (ap (λ (x : First). x.start) first_is);
  base_is = base-is d vps s past p r f ∙ sym (ap (λ (x : First). x.base) first_is);
  vps_is = ap whole f.vps_is ∙ sym (ap Some vps_is);
  sps_is = ap (λ (t : Sets). t.sps) f.sets_are ∙ sym (ap (λ (a : ActiveValue). Some (carried_sps a.sps)) active_is);
  format_is = ap (λ (t : Sets). t.format) f.sets_are ∙ sym (ap (λ (a : ActiveValue). Some a.format) active_is);
  context_is = f.context_is ∙ sym (ap Some (ctx_is ∙ ap (λ v. context_by v s.served.active h) vps_is ∙ ap (context_by vps.value s.served.active) same));
  header_is = head-of p s.header f.header_is.header_is ∙ sym (ap Some header_is);
  layers_stand = λ goes n lt. subst (λ (xs : List (LayerValue P)). layers.Stands (layer_at xs n) past n None) (sym layers_is) (r.layers_are goes n lt);
  in_order = f.rises;
  order_stands = subst (λ (o : OrdersValue). orders.StandsBefore o past (judged past p)) (sym order_is) r.order_is;
  steady = f.steady;
}

-- ---- A rule that it breaks

pub refused : {R W P : Type 0} (new : Decoder R W P) (past : List Judged) (p : Fact) (holds : Decided → Type 0) (answer : Result Decided DecideFault) (fault : DecideFault) (stop : Stop) →
    Tried (first_of (decided_cases past p)) holds answer → answer ≡ Err fault → stop ≡ of_decided fault → Decodes past p new (Err stop)
refused new past p holds answer fault stop h is stops = subst (λ s. Decodes past p new (Err s)) (sym stops) (go fault (subst (Tried (first_of (decided_cases past p)) holds) is h))
  where
    go : (f : DecideFault) → Tried (first_of (decided_cases past p)) holds (Err f) → Decodes past p new (Err (of_decided f))
    go (DecideFault.Refused rule) broken = broken
    go DecideFault.Memory said = tt

-- ---- It breaks none

pub decided-ok : (past : List Judged) (p : Fact) (holds : Decided → Type 0) (answer : Result Decided DecideFault) (v : Decided) → Tried (first_of (decided_cases past p)) holds answer → answer ≡ Ok v → (decided_rule past p ≡ None) × holds v
decided-ok past p holds answer v h is = subst (Tried (first_of (decided_cases past p)) holds) is h

-- the layers behind it are what is kept, changed in its own
pub decided-at : {P Z : Type 0} (kept : Vec (LayerValue P) Z) (before after : List (LayerValue P)) (order : OrdersValue) (past : List Judged) (p : Fact) (v : Decided) → before ≡ kept.items → length before ≡ vec_len kept →
    IsDecided before after order past p v → IsDecided kept.items (with_items kept after).items order past p v
decided-at {P} {Z} kept before after order past p v is len h =
    let long : length after ≡ vec_len kept = ap length h.own_layer ∙ length-set before (layer p) (with_count (asked_within (look past p) p) (layer_at before (layer p))) ∙ len in
    subst (λ (xs : List (LayerValue P)). IsDecided kept.items xs order past p v) (sym (with_items_is kept after long)) (subst (λ (xs : List (LayerValue P)). IsDecided xs after order past p v) is h)

-- those that stay held stand in its layer's buffer, which is as it was
stays-in : {P : Type 0} (kept counted_kept : List (LayerValue P)) (order : OrdersValue) (s : FirstSegment) (past : List Judged) (p : Fact) (v : Decided) → length kept ≡ 64 → s.head.layer < 64 → p.placed.item.head ≡ s.head →
    IsDecided kept counted_kept order past p v → All (λ (k : Keep). k.place < length (layer_at counted_kept s.head.layer).buffer) v.resolved.keep.items
stays-in {P} kept counted_kept order s past p v all low head h =
    let same : layer p ≡ s.head.layer = ap (λ (i : UnitHead). i.layer) head in
    let l : LayerValue P = with_count (asked_within (look past p) p) (layer_at kept (layer p)) in
    let at : layer_at counted_kept (layer p) ≡ l =
    ap (λ (xs : List (LayerValue P)). layer_at xs (layer p)) h.own_layer ∙ get_or-set_same kept (layer p) l no_pictures (subst (λ n. layer p < n) (sym all) (subst (λ k. k < 64) (sym same) low)) in
    subst (λ (j : ℕ). All (λ (k : Keep). k.place < length (layer_at counted_kept j).buffer) v.resolved.keep.items) same
    (subst (λ (x : LayerValue P). All (λ (k : Keep). k.place < length x.buffer) v.resolved.keep.items) (sym at) h.within_buffer)

pub stays-within : {R W P : Type 0} (old counted : Decoder R W P) (before after : List (LayerValue P)) (order : OrdersValue) (base : Option ℤ) (s : FirstSegment) (past : List Judged) (p : Fact) (v : Decided) → length old.layers.items ≡ 64 →
    s.head.layer < 64 → p.placed.item.head ≡ s.head → before ≡ old.layers.items → length before ≡ vec_len old.layers → counted ≡ record old { layers = with_items old.layers after; order = order; base_count = base } →
    IsDecided before after order past p v → All (λ (k : Keep). k.place < length (layer_at counted.layers.items s.head.layer).buffer) v.resolved.keep.items
stays-within {R} {W} {P} old counted before after order base s past p v all low head is len counts h =
    subst (λ (xs : List (LayerValue P)). All (λ (k : Keep). k.place < length (layer_at xs s.head.layer).buffer) v.resolved.keep.items) (sym (ap (λ (x : Decoder R W P). x.layers.items) counts))
    (stays-in old.layers.items (with_items old.layers after).items order s past p v all low head (decided-at old.layers before after order past p v is len h))

-- what is told of it
are-told : {P : Type 0} (kept counted_kept : List (LayerValue P)) (order : OrdersValue) (past : List Judged) (p : Fact) (v : Decided) → is_decoded (look past p) p ≡ true → decided_rule past p ≡ None →
    IsDecided kept counted_kept order past p v → AreTold past p (Some v.count, Some (record { sizes = v.sizes; lists = v.lists }))
are-told kept counted_kept order past p v decoded rule h =
    let lists : AreLists (record { sizes = v.sizes; lists = v.lists }) (judged past p) (judged past p) =
    record { tags_are = h.tags_are; total_is = h.total_is ∙ sym (ap num_pic_total_curr (fact-is past p)); lists_are = sym h.lists_are } in
    (sym (within-is past p v.count (unbroken past p rule) h.counts), sym decoded, (lists, h.few_references, h.few_entries))

-- it is put in the making
pub begun : {R W P : Type 0} (old counted new : Decoder R W P) (before after : List (LayerValue P)) (order : OrdersValue) (vps : VpsInForceValue) (s : FirstSegment) (start : Bool) (past : List Judged) (p : Fact) (v : Decided)
    (answer : Result Decided DecideFault) (j : ℕ) (n : ℤ) (result : Result (Option ℤ × Option DecodedValue) Stop) → IsReady old past p → IsFirst vps s past p → IsDecoded start past p → s.head.layer < 64 →
    Tried (first_of (decided_cases past p)) (IsDecided before after order past p) answer → answer ≡ Ok v → before ≡ old.layers.items → length before ≡ vec_len old.layers →
    counted ≡ record old { layers = with_items old.layers after; order = order; base_count = cond (nat_eq j 0) (Some n) old.base_count } → j ≡ s.head.layer → n ≡ v.count →
    IfOk result (λ told. told ≡ (Some v.count, Some (record { sizes = v.sizes; lists = v.lists }))) → OnOk result (IfSome new.making (λ m. made_in s.head.layer m ≡ Some (v.count, s.au))) → OnOk result (is_some new.making ≡ true) →
    OnOk result (counted.pictures + 1 < 2 ^ 64 → new.pictures ≡ counted.pictures + 1) →
    OnOk result (new.layers.items ≡ slice_set counted.layers.items s.head.layer (with_decoded start v.resolved.keep.items (latest_by s) (layer_at counted.layers.items s.head.layer))) →
    new ≡ record counted { layers = new.layers; making = new.making; pictures = new.pictures } → IfErr result (λ stop. stop ≡ Stop.Memory) → Decodes past p new result
begun {R} {W} {P} old counted new before after order vps s start past p v answer j n (Err stop) r f i low tried is layers_is len counts here same told making made pictures layers rest memory =
    subst (λ (s : Stop). Decodes past p new (Err s)) (sym memory) tt
begun {R} {W} {P} old counted new before after order vps s start past p v answer j n (Ok told_it) r f i low tried is layers_is len counts here same told making made pictures layers rest memory =
    (d.0, keeps, made, subst (AreTold past p) (sym told) (are-told old.layers.items counted.layers.items new.order past p v i.decoded d.0 h))
  where
    d : (decided_rule past p ≡ None) × IsDecided before after order past p v
    d = decided-ok past p (IsDecided before after order past p) answer v tried is

    order_is : order ≡ new.order
    order_is = sym (ap (λ (x : Decoder R W P). x.order) rest ∙ ap (λ (x : Decoder R W P). x.order) counts)

    h : IsDecided old.layers.items counted.layers.items new.order past p v
    h =
        subst (λ (o : OrdersValue). IsDecided old.layers.items counted.layers.items o past p v) order_is
        (subst (λ (xs : List (LayerValue P)). IsDecided old.layers.items xs order past p v) (sym (ap (λ (x : Decoder R W P). x.layers.items) counts)) (decided-at old.layers before after order past p v layers_is len d.1))

    base : new.base_count ≡ cond (nat_eq s.head.layer 0) (Some v.count) old.base_count
    base = ap (λ (x : Decoder R W P). x.base_count) rest ∙ ap (λ (x : Decoder R W P). x.base_count) counts ∙ ap (λ k. cond (nat_eq k 0) (Some n) old.base_count) here ∙ ap (λ c. cond (nat_eq s.head.layer 0) (Some c) old.base_count) same

    sequences : new.sequences ≡ old.sequences
    sequences = ap (λ (x : Decoder R W P). x.sequences) rest ∙ ap (λ (x : Decoder R W P). x.sequences) counts

    more : old.pictures + 1 < 2 ^ 64 → new.pictures ≡ old.pictures + 1
    more = subst (λ n. n + 1 < 2 ^ 64 → new.pictures ≡ n + 1) (ap (λ (x : Decoder R W P). x.pictures) counts) pictures

    keeps : picture_rule past p ≡ None → KeepsPictures new (judged past p ∷ past) new.making
    keeps none = go new.making refl
      where
        go : (o : Option (Making R W P)) → new.making ≡ o → KeepsPictures new (judged past p ∷ past) o
        go None e = absurd (let w : false ≡ true = sym (ap is_some e) ∙ made in cc)
        go (Some m) e =
            decided-keeps old new counted.layers.items vps s start past p v m r f i low h d.0 (f.goes_on none (layer p)) layers
            (subst (λ (o : Option (Making R W P)). IfSome o (λ m. made_in s.head.layer m ≡ Some (v.count, s.au))) e making) base more sequences
