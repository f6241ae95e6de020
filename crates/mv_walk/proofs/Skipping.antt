-- What is kept of pictures behind the first segment of one that isn't decoded.
use Rattle.std.proofs.Common.{◌≡◌, ℕ, ◌<◌, ◌^◌, ℤ, pos, Bool, true, false, cond, not, ◌&&◌, List, ◌∷◌, length, filter, Option, None, Some, refl, ap, sym, subst, ◌∙◌, arith}
use Rattle.std.specs.Prelude.{◌||◌, nat_eq, option_and_then, option_map, slice_set, Result, Ok, Err, is_some}
use Rattle.std.proofs.lemmas.Bool.{and_from, and_parts, eqb-false, eqb-true}
use Rattle.std.proofs.lemmas.List.{get_or-set_other, get_or-set_same, length-set}
use Rattle.mv_syntax.specs.Words.{◌otherwise◌, or_zero}
use Rattle.mv_rules.specs.declared.rule.Rule.{Rule}
use Rattle.mv_units.specs.declared.head.UnitHead.{UnitHead}
use Rattle.mv_slice.specs.Context.{SliceContextValue}
use Rattle.mv_slice.specs.declared.slice.SliceFull.{SliceFull}
use Rattle.mv_slice.specs.declared.slice.SliceHead.{SliceHead}
use Rattle.mv_pictures.specs.Counts.{anchor, count, lsb, nearest, start_count}
use Rattle.mv_pictures.specs.Facts.{Fact}
use Rattle.mv_pictures.specs.Held.{has_count}
use Rattle.mv_pictures.specs.History.{judged}
use Rattle.mv_pictures.specs.Judged.{Judged, begins, is_base, is_picture, layer}
use Rattle.mv_pictures.specs.Look.{Look, look}
use Rattle.mv_pictures.specs.PictureRules.{is_in_range}
use Rattle.mv_pictures.specs.SliceFields.{coded_lsb, is_put_out, max_lsb}
use Rattle.mv_pictures.specs.Starts.{is_decoded, is_sequence_start, is_start}
use Rattle.mv_commuting.proofs.Alive.{start_decoded}
use Rattle.mv_rps.specs.Asked.{anchor_after, count_of, counted, has_low_bits, on_base, taken, within_range}
use Rattle.mv_rps.specs.declared.counts.PocAsk.{PocAsk}
use Rattle.mv_walk_layer.specs.LayerValue.{LayerValue, no_pictures, with_count}
use Rattle.mv_walk_layer.specs.Standing as layers
use Rattle.mv_walk_layer.specs.Standing.{asked_within, within}
use Rattle.mv_walk_layer.proofs.Stepping.{skipped-base, undecoded}
use Rattle.mv_walk_layer.proofs.Telling.{counts-base}
use Rattle.mv_walk_order.specs.Orders as orders
use Rattle.mv_walk_order.specs.OrderValues.{OrdersValue}
use Rattle.mv_walk_order.proofs.OrderLaws.{goes-on, unshown}
use Rattle.mv_walk_sets.specs.InForce.{VpsInForceValue}
use Rattle.mv_walk_segment.specs.Serving.{context_by}
use Rattle.mv_walk_decoded.specs.Asked.{asked_by, lsb_in}
use Rattle.mv_walk_decoded.proofs.Counting.{starts-none}
use Rattle.mv_walk.specs.Decoders.{KeepsPictures, layer_at}
use Rattle.mv_walk.specs.Firsts.{IsFirst, TakesPicture, base_in, place, taken_rule}
use Rattle.mv_walk.specs.declared.decoder.Decoder.{Decoder}
use Rattle.mv_walk.specs.declared.ending.Stop.{Stop}
use Rattle.mv_walk.specs.declared.first.FirstSegment.{FirstSegment}
use Rattle.mv_walk.specs.declared.making.Making.{Making}
use Rattle.mv_walk.proofs.Beginning.{begins-none, decoded-is, head-of, no-more, seq-is, slice-is}
use Rattle.mv_walk.proofs.Decoded.{base-more}
use Rattle.mv_walk.proofs.Tried.{mid-goes, taken-skipped}

-- ---- It is no start

skipped-start : (l : Look) (p : Fact) → is_decoded l p ≡ false → is_start l p ≡ false
skipped-start l p skipped = go (is_start l p) refl
  where
    go : (b : Bool) → is_start l p ≡ b → b ≡ false
    go false e = refl
    go true e = sym (start_decoded l p e) ∙ skipped

skipped-goes : (l : Look) (p : Fact) → is_decoded l p ≡ false → is_sequence_start l p ≡ false
skipped-goes l p skipped = starts-none l p (skipped-start l p skipped)

-- one of a layer above 0 has no count
pub skipped-count : (l : Look) (p : Fact) → is_decoded l p ≡ false → nat_eq (layer p) 0 ≡ false → count l p ≡ None
unfolding count
skipped-count l p skipped above =
    ap (λ s. cond s (start_count l p) (cond (is_decoded l p || is_base p) (option_map (nearest (max_lsb p) (lsb p)) (anchor l)) None)) (skipped-start l p skipped)
    ∙ ap (λ d. cond (d || is_base p) (option_map (nearest (max_lsb p) (lsb p)) (anchor l)) None) skipped
    ∙ ap (λ z. cond (false || (z && is_picture p)) (option_map (nearest (max_lsb p) (lsb p)) (anchor l)) None) above

-- ---- What is kept

-- the order of output, and what is counted
order-goes : (s : OrdersValue) (past : List Judged) (p : Fact) → is_picture p ≡ true → is_decoded (look past p) p ≡ false → orders.Stands s past → orders.Stands s (judged past p ∷ past)
order-goes s past p picture skipped h =
    unshown s past p (slice-is p picture) (ap (λ b. b && is_put_out p) (decoded-is past p picture ∙ skipped))
    (goes-on s past p (slice-is p picture) (seq-is past p picture ∙ skipped-goes (look past p) p skipped) h)

pictures-same : (past : List Judged) (p : Fact) → is_picture p ≡ true → is_decoded (look past p) p ≡ false → length (filter (λ (q : Judged). q.decoded) (judged past p ∷ past)) ≡ length (filter (λ (q : Judged). q.decoded) past)
pictures-same past p picture skipped = no-more (λ (q : Judged). q.decoded) past (judged past p) (decoded-is past p picture ∙ skipped)

sequences-same : (past : List Judged) (p : Fact) → is_picture p ≡ true → is_decoded (look past p) p ≡ false → length (filter begins (judged past p ∷ past)) ≡ length (filter begins past)
sequences-same past p picture skipped = no-more begins past (judged past p) (begins-none past p picture (skipped-goes (look past p) p skipped))

-- of a layer above 0
pub skip-upper : {R W P : Type 0} (d : Decoder R W P) (vps : VpsInForceValue) (s : FirstSegment) (past : List Judged) (p : Fact) → KeepsPictures d past None → IsFirst vps s past p → is_decoded (look past p) p ≡ false →
    nat_eq (layer p) 0 ≡ false → KeepsPictures d (judged past p ∷ past) None
skip-upper d vps s past p k f skipped above = record {
  all = k.all;
  layers_are = λ n lt. undecoded (layer_at d.layers.items n) past p n None (decoded-is past p f.picture ∙ skipped) f.anchored (k.layers_are n lt);
  order_is = order-goes d.order past p f.picture skipped k.order_is;
  base_is = λ q. base-more past p q (within (count (look past p) p)) d.base_count f.picture refl (k.base_is q) ∙ ap (λ z. cond z (within (count (look past p) p)) d.base_count) above;
  pictures_are = k.pictures_are ∙ sym (pictures-same past p f.picture skipped);
  sequences_are = k.sequences_are ∙ sym (sequences-same past p f.picture skipped);
  in_layer = tt;
}

-- of layer 0: its count is that of the latest base picture, and its layer has counted it
layers-base : {P : Type 0} (kept after : List (LayerValue P)) (past : List Judged) (p : Fact) → is_base p ≡ true → (judged past p).decoded ≡ false → layers.IsDecodedAnchor (judged past p) → length kept ≡ 64 →
    after ≡ slice_set kept 0 (with_count (asked_within (look past p) p) (layer_at kept 0)) → ((n : ℕ) → n < 64 → layers.Stands (layer_at kept n) past n None) →
    (n : ℕ) → n < 64 → layers.Stands (layer_at after n) (judged past p ∷ past) n None
layers-base {P} kept after past p base skipped anchored all is stands n lt = go (nat_eq n 0) refl
  where
    counted_l : LayerValue P
    counted_l = with_count (asked_within (look past p) p) (layer_at kept 0)

    zero : layer p ≡ 0
    zero = eqb-true (layer p) 0 (and_parts (nat_eq (layer p) 0) (is_picture p) base).0

    room : 0 < length kept
    room = omega (arith, all)

    here : layer_at after 0 ≡ counted_l
    here = ap (λ (xs : List (LayerValue P)). layer_at xs 0) is ∙ get_or-set_same kept 0 counted_l no_pictures room

    own : layers.Stands counted_l (judged past p ∷ past) 0 None
    own =
        subst (λ (k : ℕ). layers.Stands counted_l (judged past p ∷ past) k None) zero
        (skipped-base (layer_at kept 0) past p None base skipped anchored
        (subst (λ (k : ℕ). layers.Stands (layer_at kept 0) past k None) (sym zero) (stands 0 (omega arith))))

    elsewhere : (n ≡ 0 → ⊥) → layer_at after n ≡ layer_at kept n
    elsewhere other = ap (λ (xs : List (LayerValue P)). layer_at xs n) is ∙ get_or-set_other kept 0 n counted_l no_pictures other

    go : (b : Bool) → nat_eq n 0 ≡ b → layers.Stands (layer_at after n) (judged past p ∷ past) n None
    go true e =
        subst (λ (k : ℕ). layers.Stands (layer_at after k) (judged past p ∷ past) k None) (sym (eqb-true n 0 e))
        (subst (λ (l : LayerValue P). layers.Stands l (judged past p ∷ past) 0 None) (sym here) own)
    go false e =
        subst (λ (l : LayerValue P). layers.Stands l (judged past p ∷ past) n None) (sym (elsewhere (eqb-false n 0 e)))
        (undecoded (layer_at kept n) past p n None skipped anchored (stands n lt))

pub skip-base : {R W P : Type 0} (old new : Decoder R W P) (vps : VpsInForceValue) (s : FirstSegment) (past : List Judged) (p : Fact) → KeepsPictures old past None → IsFirst vps s past p → is_decoded (look past p) p ≡ false →
    nat_eq (layer p) 0 ≡ true → new.layers.items ≡ slice_set old.layers.items 0 (with_count (asked_within (look past p) p) (layer_at old.layers.items 0)) →
    new.base_count ≡ within (count (look past p) p) → new.order ≡ old.order → new.pictures ≡ old.pictures → new.sequences ≡ old.sequences → KeepsPictures new (judged past p ∷ past) None
skip-base {R} {W} {P} old new vps s past p k f skipped zero kept base order pictures sequences = record {
  all = ap length kept ∙ length-set old.layers.items 0 (with_count (asked_within (look past p) p) (layer_at old.layers.items 0)) ∙ k.all;
  layers_are = layers-base old.layers.items new.layers.items past p (and_from (nat_eq (layer p) 0) (is_picture p) zero f.picture) (decoded-is past p f.picture ∙ skipped) f.anchored k.all kept k.layers_are;
  order_is = subst (λ x. orders.Stands x (judged past p ∷ past)) (sym order) (order-goes old.order past p f.picture skipped k.order_is);
  base_is = λ q. base-more past p q (within (count (look past p) p)) old.base_count f.picture refl (k.base_is q)
      ∙ ap (λ z. cond z (within (count (look past p) p)) old.base_count) zero
      ∙ sym base;
  pictures_are = pictures ∙ k.pictures_are ∙ sym (pictures-same past p f.picture skipped);
  sequences_are = sequences ∙ k.sequences_are ∙ sym (sequences-same past p f.picture skipped);
  in_layer = tt;
}

-- ---- What is asked for its count: of layer 0 whatever the base picture's count

abbrev pub with_base : PocAsk → Option ℤ → PocAsk
with_base q b = record { layer = q.layer; kind = q.kind; tid = q.tid; start = q.start; lsb = q.lsb; max_lsb = q.max_lsb; base = b }

count-based : (a : Option ℤ) (q : PocAsk) (b : Option ℤ) → nat_eq q.layer 0 ≡ true → count_of a (with_base q b) ≡ count_of a q
count-based a q b zero =
    ap (λ z. cond q.start (cond z (Some (pos (or_zero q.lsb))) b) (option_map (nearest q.max_lsb (or_zero q.lsb)) a)) zero
    ∙ sym (ap (λ z. cond q.start (cond z (Some (pos (or_zero q.lsb))) q.base) (option_map (nearest q.max_lsb (or_zero q.lsb)) a)) zero)

on-based : (q : PocAsk) (b : Option ℤ) (r : Result ℤ Rule) → nat_eq q.layer 0 ≡ true → on_base (with_base q b) r ≡ on_base q r
on-based q b (Err rule) zero = refl
on-based q b (Ok c) zero =
    ap (λ z. same z b) zero ∙ sym (ap (λ z. same z q.base) zero)
  where
    same : Bool → Option ℤ → Result ℤ Rule
    same z base = cond (not z && (not (has_count c base) || (q.start && not (has_low_bits q c)))) (Err Rule.PocMismatch) (Ok c)

pub counted-based : (a : Option ℤ) (q : PocAsk) (b : Option ℤ) → nat_eq q.layer 0 ≡ true → counted a (with_base q b) ≡ counted a q
counted-based a q b zero = ap (λ c. on_base (with_base q b) (within_range c)) (count-based a q b zero) ∙ on-based q b (within_range (count_of a q)) zero

after-based : (a : Option ℤ) (q : PocAsk) (b : Option ℤ) → nat_eq q.layer 0 ≡ true → anchor_after a (with_base q b) ≡ anchor_after a q
after-based a q b zero = ap (taken a (with_base q b)) (counted-based a q b zero) ∙ go (counted a q)
  where
    go : (r : Result ℤ Rule) → taken a (with_base q b) r ≡ taken a q r
    go (Err rule) = refl
    go (Ok c) = refl

pub layer-based : {P : Type 0} (l : LayerValue P) (q : PocAsk) (b : Option ℤ) → nat_eq q.layer 0 ≡ true → with_count (with_base q b) l ≡ with_count q l
layer-based l q b zero = ap (λ (c : Option ℤ). record { counts = c; buffer = l.buffer; latest = l.latest }) (after-based l.counts q b zero)

-- by its header
lsb-is : (p : Fact) (header : SliceHead) → p.header ≡ Some (Ok header) → coded_lsb p ≡ lsb_in header.full
unfolding coded_lsb
lsb-is p header h = ap (λ o. option_and_then (λ (full : SliceFull). full.picture.slice_pic_order_cnt_lsb) (option_and_then (λ (x : SliceHead). x.full) o)) (head-of p header h)

max-is : (p : Fact) (ctx : SliceContextValue) → p.context ≡ Some ctx → max_lsb p ≡ 2 ^ ctx.lsb_bits
unfolding max_lsb
max-is p ctx h = ap (λ o. 2 ^ (option_map (λ (c : SliceContextValue). c.lsb_bits) o otherwise 4)) h

pub asked-is : (base : Option ℤ) (vps : VpsInForceValue) (s : FirstSegment) (past : List Judged) (p : Fact) → IsFirst vps s past p → is_decoded (look past p) p ≡ false →
    asked_by (place base s false) (context_by vps.value s.served.active s.head) s.header ≡ with_base (asked_within (look past p) p) (base_in base s.head.layer)
asked-is base vps s past p f skipped =
    ap (λ h. ask h false (lsb_in s.header.full) (2 ^ (context_by vps.value s.served.active s.head).lsb_bits)) (sym f.head_is)
    ∙ ap (λ b. ask p.placed.item.head b (lsb_in s.header.full) (2 ^ (context_by vps.value s.served.active s.head).lsb_bits)) (sym (skipped-start (look past p) p skipped))
    ∙ ap (λ o. ask p.placed.item.head (is_start (look past p) p) o (2 ^ (context_by vps.value s.served.active s.head).lsb_bits)) (sym (lsb-is p s.header f.header_is.header_is))
    ∙ ap (λ m. ask p.placed.item.head (is_start (look past p) p) (coded_lsb p) m) (sym (max-is p (context_by vps.value s.served.active s.head) f.context_is))
  where
    ask : UnitHead → Bool → Option ℕ → ℕ → PocAsk
    ask h b bits m = record { layer = h.layer; kind = h.kind; tid = h.tid; start = b; lsb = bits; max_lsb = m; base = base_in base s.head.layer }

-- what is told of the count
unfoldable pub told_of : Result ℤ Rule → Option ℤ
told_of (Ok c) = Some c
told_of (Err rule) = None

told-within : (c : Option ℤ) → told_of (within_range c) ≡ within c
unfolding told_of
told-within None = refl
told-within (Some c) = go (is_in_range c)
  where
    go : (b : Bool) → told_of (cond b (Ok c) (Err Rule.PocRange)) ≡ cond b (Some c) None
    go true = refl
    go false = refl

-- the count that is answered of a base picture, and what its layer has counted
pub base-answers : {P : Type 0} (l : LayerValue P) (base : Option ℤ) (vps : VpsInForceValue) (s : FirstSegment) (past : List Judged) (p : Fact) → layers.Stands l past (layer p) None → IsFirst vps s past p →
    is_decoded (look past p) p ≡ false → nat_eq (layer p) 0 ≡ true →
    told_of (counted l.counts (asked_by (place base s false) (context_by vps.value s.served.active s.head) s.header)) ≡ within (count (look past p) p)
base-answers l base vps s past p stands f skipped zero =
    ap (λ q. told_of (counted l.counts q)) (asked-is base vps s past p f skipped)
    ∙ ap told_of (counted-based l.counts (asked_within (look past p) p) (base_in base s.head.layer) zero)
    ∙ ap told_of (counts-base l past p None stands (and_from (nat_eq (layer p) 0) (is_picture p) zero f.picture))
    ∙ told-within (count (look past p) p)

pub base-counts : {P : Type 0} (l : LayerValue P) (base : Option ℤ) (vps : VpsInForceValue) (s : FirstSegment) (past : List Judged) (p : Fact) → IsFirst vps s past p → is_decoded (look past p) p ≡ false → nat_eq (layer p) 0 ≡ true →
    with_count (asked_by (place base s false) (context_by vps.value s.served.active s.head) s.header) l ≡ with_count (asked_within (look past p) p) l
base-counts l base vps s past p f skipped zero =
    ap (λ q. with_count q l) (asked-is base vps s past p f skipped) ∙ layer-based l (asked_within (look past p) p) (base_in base s.head.layer) zero

-- ---- All that is answered of it

of-head : (vps : VpsInForceValue) (s : FirstSegment) (past : List Judged) (p : Fact) (b : Bool) → IsFirst vps s past p → nat_eq s.head.layer 0 ≡ b → nat_eq (layer p) 0 ≡ b
of-head vps s past p b f is = ap (λ (h : UnitHead). nat_eq h.layer 0) f.head_is ∙ is

mid-is : (vps : VpsInForceValue) (s : FirstSegment) (past : List Judged) (p : Fact) → IsFirst vps s past p → is_decoded (look past p) p ≡ false →
    taken_rule past p ≡ cond (nat_eq s.head.layer 0 && s.behind_change) (Some Rule.VpsMidCvs) None
mid-is vps s past p f skipped = taken-skipped past p skipped ∙ mid-goes vps s past p f (skipped-goes (look past p) p skipped)

pub upper-takes : {R W P : Type 0} (d : Decoder R W P) (vps : VpsInForceValue) (s : FirstSegment) (past : List Judged) (p : Fact) → KeepsPictures d past None → IsFirst vps s past p → is_decoded (look past p) p ≡ false →
    nat_eq s.head.layer 0 ≡ false → d.making ≡ None → TakesPicture past p d (Ok (None, None))
upper-takes {R} {W} {P} d vps s past p k f skipped above making = (
  mid-is vps s past p f skipped ∙ ap (λ z. cond (z && s.behind_change) (Some Rule.VpsMidCvs) None) above,
  λ rule. subst (λ (m : Option (Making R W P)). KeepsPictures d (judged past p ∷ past) m) (sym making) (skip-upper d vps s past p k f skipped (of-head vps s past p false f above)),
  ap is_some making ∙ sym skipped,
  (sym (ap within (skipped-count (look past p) p skipped (of-head vps s past p false f above))), sym skipped, tt),
)

pub base-takes : {R W P : Type 0} (old new : Decoder R W P) (vps : VpsInForceValue) (s : FirstSegment) (past : List Judged) (p : Fact) (c : Option ℤ) → KeepsPictures old past None → IsFirst vps s past p →
    is_decoded (look past p) p ≡ false → nat_eq s.head.layer 0 ≡ true → (nat_eq s.head.layer 0 && s.behind_change) ≡ false → c ≡ within (count (look past p) p) →
    new.layers.items ≡ slice_set old.layers.items 0 (with_count (asked_within (look past p) p) (layer_at old.layers.items 0)) → new.base_count ≡ c → new.order ≡ old.order → new.pictures ≡ old.pictures →
    new.sequences ≡ old.sequences → new.making ≡ None → TakesPicture past p new (Ok (c, None))
base-takes {R} {W} {P} old new vps s past p c k f skipped zero same is kept base order pictures sequences making = (
  mid-is vps s past p f skipped ∙ ap (λ b. cond b (Some Rule.VpsMidCvs) None) same,
  λ rule. subst (λ (m : Option (Making R W P)). KeepsPictures new (judged past p ∷ past) m) (sym making)
      (skip-base old new vps s past p k f skipped (of-head vps s past p true f zero) kept (base ∙ is) order pictures sequences),
  ap is_some making ∙ sym skipped,
  (is, sym skipped, tt),
)

pub base-refused : {R W P : Type 0} (new : Decoder R W P) (vps : VpsInForceValue) (s : FirstSegment) (past : List Judged) (p : Fact) → IsFirst vps s past p → is_decoded (look past p) p ≡ false →
    (nat_eq s.head.layer 0 && s.behind_change) ≡ true → TakesPicture past p new (Err (Stop.Breaks Rule.VpsMidCvs))
base-refused new vps s past p f skipped changed = mid-is vps s past p f skipped ∙ ap (λ b. cond b (Some Rule.VpsMidCvs) None) changed
