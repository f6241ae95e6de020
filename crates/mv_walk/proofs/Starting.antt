-- A base picture starts a coded video sequence.
use Rattle.std.proofs.Common.{◌≡◌, ◌+◌, ◌≤◌, ◌%◌, ◌^◌, true, List, length, None, ap, sym, subst, ◌∙◌, arith}
use Rattle.std.specs.Prelude.{Vec, option_and_then, replicate}
use Rattle.std.specs.Vec.{vec_len, with_items}
use Rattle.std.proofs.lemmas.List.{length-replicate, with_items_is}
use Rattle.mv_sps.specs.Sps.{SpsValue}
use Rattle.mv_vps.specs.Vps.{WholeVps}
use Rattle.mv_units.specs.declared.head.UnitHead.{UnitHead}
use Rattle.mv_pictures.specs.Carried.{value_of}
use Rattle.mv_pictures.specs.Facts.{Fact, Sets}
use Rattle.mv_pictures.specs.History.{judged}
use Rattle.mv_pictures.specs.Judged.{Judged}
use Rattle.mv_pictures.specs.Layers.{whole}
use Rattle.mv_pictures.specs.Look.{look}
use Rattle.mv_pictures.specs.Starts.{is_sequence_start}
use Rattle.mv_walk_layer.specs.LayerValue.{LayerValue, no_pictures}
use Rattle.mv_walk_order.specs.OrderSteps.{reorder_in}
use Rattle.mv_walk_order.specs.Orders as orders
use Rattle.mv_walk_order.specs.Orders.{IsBegun}
use Rattle.mv_walk_order.proofs.SpsLaws.{reorder_low}
use Rattle.mv_walk_segment.specs.OpenValue.{ServedValue}
use Rattle.mv_walk_segment.specs.Serving.{IsServing}
use Rattle.mv_walk_sets.specs.InForce.{VpsInForceValue}
use Rattle.mv_walk.specs.Decoders.{IsButQueue, KeepsPictures}
use Rattle.mv_walk.specs.Firsts.{IsFirst, IsReady}
use Rattle.mv_walk.specs.declared.decoder.Decoder.{Decoder}
use Rattle.mv_walk.specs.declared.first.FirstSegment.{FirstSegment}
use Rattle.mv_walk.proofs.Beginning.{ready-start}

-- a valid sequence parameter set lets few pictures wait
pub few-wait : (vps : WholeVps) (head : UnitHead) (served : ServedValue) (sps : SpsValue) → sps ≡ served.active.sps.value.0 → IsServing vps head served → reorder_in sps ≤ 15
few-wait vps head served sps is s = subst (λ v. reorder_in v ≤ 15) (sym is) (reorder_low s.sets.layer s.sets.vps_sub_layers (served.active.sps.value.0, s.sets.sps_tail) s.sets.sps)

-- nothing is left in any layer
pub forgotten : {P Z : Type 0} (kept : Vec (LayerValue P) Z) (before after : List (LayerValue P)) → after ≡ replicate (length before) no_pictures → before ≡ kept.items → length before ≡ vec_len kept →
    (with_items kept after).items ≡ replicate (length kept.items) no_pictures
forgotten {P} {Z} kept before after is same len =
    with_items_is kept after (ap length is ∙ length-replicate (length before) (no_pictures {P = P}) ∙ len) ∙ is ∙ ap (λ (xs : List (LayerValue P)). replicate (length xs) no_pictures) same

begun-by : (vps : VpsInForceValue) (s : FirstSegment) (past : List Judged) (p : Fact) → IsFirst vps s past p → is_sequence_start (look past p) p ≡ true → IsBegun vps.value s.served.active.sps.value.0 past p
begun-by vps s past p f starts = record { starts = starts; vps_is = ap whole f.vps_is; sps_is = ap (λ (x : Sets). option_and_then value_of x.sps) f.sets_are }

pub sequence-ready : {R W P : Type 0} (old flushed new : Decoder R W P) (vps : VpsInForceValue) (s : FirstSegment) (v : WholeVps) (sps : SpsValue) → IsButQueue old flushed → v ≡ vps.value →
    sps ≡ s.served.active.sps.value.0 → new.layers.items ≡ replicate (length flushed.layers.items) no_pictures →
    ((past : List Judged) (p : Fact) → orders.Stands flushed.order past → IsBegun v sps past p → orders.StandsBefore new.order past (judged past p)) →
    new.base_count ≡ flushed.base_count → new.pictures ≡ flushed.pictures → new.sequences ≡ (flushed.sequences + 1) % 2 ^ 64 →
    (past : List Judged) (p : Fact) → KeepsPictures old past None → IsFirst vps s past p → is_sequence_start (look past p) p ≡ true → IsReady new past p
sequence-ready {R} {W} {P} old flushed new vps s v sps same vps_is sps_is kept order base pictures sequences past p k f starts =
    let begun : IsBegun v sps past p = subst (λ x. IsBegun x sps past p) (sym vps_is) (subst (λ x. IsBegun vps.value x past p) (sym sps_is) (begun-by vps s past p f starts)) in
    let stands : orders.Stands flushed.order past = subst (λ x. orders.Stands x past) (sym (ap (λ (d : Decoder R W P). d.order) same)) k.order_is in
    let more : flushed.sequences ≡ old.sequences = ap (λ (d : Decoder R W P). d.sequences) same in
    ready-start old new vps s past p k f starts (kept ∙ ap (λ (d : Decoder R W P). replicate (length d.layers.items) no_pictures) same) (order past p stands begun)
    (base ∙ ap (λ (d : Decoder R W P). d.base_count) same) (pictures ∙ ap (λ (d : Decoder R W P). d.pictures) same) (λ room. omega (arith, sequences, more, room))
