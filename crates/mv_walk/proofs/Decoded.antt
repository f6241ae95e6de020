-- What is kept of pictures behind the first segment of one that is decoded.
use Rattle.std.proofs.Common.{◌≡◌, ℕ, ◌+◌, ◌<◌, ◌≤◌, ◌^◌, ℤ, Bool, true, false, cond, not, ◌&&◌, List, ◌∷◌, length, filter, Option, None, Some, refl, ap, ap₂, sym, subst, ◌∙◌, arith}
use Rattle.std.specs.Prelude.{◌||◌, nat_eq, option_and_then, option_map, slice_set, Ok}
use Rattle.std.specs.List.{find}
use Rattle.std.proofs.lemmas.Bool.{eqb-false, eqb-true}
use Rattle.std.proofs.lemmas.List.{get_or-set_other, get_or-set_same, length-set}
use Rattle.mv_syntax.specs.Words.{◌otherwise◌}
use Rattle.mv_rules.specs.declared.rule.Rule.{Rule}
use Rattle.mv_units.specs.declared.head.UnitHead.{UnitHead}
use Rattle.mv_dpb.specs.declared.held.Keep.{Keep}
use Rattle.mv_pictures.specs.Counts.{count}
use Rattle.mv_pictures.specs.Facts.{Fact, Sets}
use Rattle.mv_pictures.specs.Held.{held}
use Rattle.mv_pictures.specs.History.{judged}
use Rattle.mv_pictures.specs.Judged.{Judged, au, is_picture, layer, of_layer}
use Rattle.mv_pictures.specs.Look.{look}
use Rattle.mv_pictures.specs.PictureRules.{has_base_count, has_low_bits, is_in_range, poc_mismatch, poc_range}
use Rattle.mv_pictures.specs.Rules.{Case}
use Rattle.mv_pictures.specs.References.{payload_of}
use Rattle.mv_pictures.specs.Starts.{is_anew, is_decoded, is_idr_or_bla, is_sequence_start, is_start, starts_layer}
use Rattle.mv_commuting.specs.HeldOneMore.{held_of}
use Rattle.mv_tried.specs.Decoded.{decoded_cases, has_too_many_refs, is_mismatched, is_out_of_range, lacks_inter_layer, lacks_ref}
use Rattle.mv_tried.specs.Tried.{first_of}
use Rattle.mv_tried.proofs.Cases.{first_next}
use Rattle.mv_rps.specs.Resolving.{kept_of}
use Rattle.mv_rps.specs.Standing.{set_for, told}
use Rattle.mv_walk_layer.specs.LayerValue.{LatestValue, LayerValue, found, no_pictures, with_count, with_decoded}
use Rattle.mv_walk_layer.specs.Standing as layers
use Rattle.mv_walk_layer.specs.Standing.{asked_within, counted_or, told_of_fact, told_of_kept, within}
use Rattle.mv_walk_layer.proofs.Stepping.{decoded-step, forgotten, other-layer, start-step}
use Rattle.mv_walk_layer.proofs.Telling.{counts-decoded, counts-start, found-told}
use Rattle.mv_walk_sets.specs.InForce.{VpsInForceValue}
use Rattle.mv_walk_decoded.specs.Decided.{IsDecided}
use Rattle.mv_walk_decoded.specs.declared.decided.Decided.{Decided}
use Rattle.mv_walk.specs.Decoders.{KeepsPictures, base_count, layer_at, made_in}
use Rattle.mv_walk.specs.Firsts.{IsDecoded, IsFirst, IsReady, decided_rule, latest_by}
use Rattle.mv_walk.specs.declared.decoder.Decoder.{Decoder}
use Rattle.mv_walk.specs.declared.first.FirstSegment.{FirstSegment}
use Rattle.mv_walk.specs.declared.making.Making.{Making}
use Rattle.mv_walk.proofs.Beginning.{begins-is, begins-none, count-is, decoded-is, fact-is, few-of, one-more}

-- ---- A case of several that don't hold

pub first-off : (c : Case) (cs : List Case) → first_of (c ∷ cs) ≡ None → (c.holds ≡ false) × (first_of cs ≡ None)
first-off c cs h = go c.holds refl
  where
    go : (b : Bool) → c.holds ≡ b → (c.holds ≡ false) × (first_of cs ≡ None)
    go true e = absurd (let w : Some c.rule ≡ None = sym (first_next c cs ∙ ap (λ b. cond b (Some c.rule) (first_of cs)) e) ∙ h in cc)
    go false e = (e, sym (first_next c cs ∙ ap (λ b. cond b (Some c.rule) (first_of cs)) e) ∙ h)

-- a decoded picture that breaks none of its rules
pub record Unbroken (past : List Judged) (p : Fact) : Type 0 where
  pub in_range : is_out_of_range (look past p) p ≡ false
  pub matched : is_mismatched (look past p) p ≡ false
  pub few : has_too_many_refs p ≡ false
  pub refs : lacks_ref (look past p) p ≡ false
  pub across : lacks_inter_layer (look past p) p ≡ false

pub unbroken : (past : List Judged) (p : Fact) → decided_rule past p ≡ None → Unbroken past p
unfolding decoded_cases
unbroken past p h =
    let a = first-off _ _ h in
    let b = first-off _ _ a.1 in
    let c = first-off _ _ b.1 in
    let d = first-off _ _ c.1 in
    let e = first-off _ _ d.1 in
    let f = first-off _ _ e.1 in
    let g = first-off _ _ f.1 in
    let i = first-off _ _ g.1 in
    record { in_range = c.0; matched = d.0; few = f.0; refs = g.0; across = i.0 }

-- ---- Its count

not-off : (b : Bool) → not b ≡ false → b ≡ true
not-off true h = refl
not-off false h = absurd (let e : true ≡ false = h in cc)

counted-ok : (past : List Judged) (p : Fact) (c : ℤ) → is_decoded (look past p) p ≡ true → Unbroken past p → count (look past p) p ≡ Some c → layers.answer (look past p) p ≡ Ok c
unfolding poc_range poc_mismatch
counted-ok past p c decoded u is =
    let range : poc_range (look past p) p ≡ false = ap (λ b. b && is_out_of_range (look past p) p) decoded ∙ u.in_range in
    let match : poc_mismatch (look past p) p ≡ false = ap (λ b. b && not (nat_eq (layer p) 0) && (not (has_base_count (look past p) p) || (is_start (look past p) p && not (has_low_bits (look past p) p)))) decoded ∙ u.matched in
    ap (λ b. counted_or (cond b (Some Rule.PocRange) (cond (poc_mismatch (look past p) p) (Some Rule.PocMismatch) None)) (count (look past p) p)) range
    ∙ ap (λ b. counted_or (cond b (Some Rule.PocMismatch) None) (count (look past p) p)) match
    ∙ ap (counted_or None) is

pub within-is : (past : List Judged) (p : Fact) (c : ℤ) → Unbroken past p → count (look past p) p ≡ Some c → within (count (look past p) p) ≡ Some c
within-is past p c u is =
    let there : is_in_range c ≡ true = not-off (is_in_range c) (sym (ap (λ o. not (option_map is_in_range o otherwise false)) is) ∙ u.in_range) in
    ap within is ∙ ap (λ b. cond b (Some c) None) there

-- ---- Its layer, and the others

-- what is told of it
latest-told : (vps : VpsInForceValue) (s : FirstSegment) (past : List Judged) (p : Fact) → IsFirst vps s past p → told_of_kept (latest_by s) ≡ told_of_fact p
latest-told vps s past p f = sym (ap₂ (λ (a : ℕ) (t : Sets). told_as a t) f.au_is f.sets_are)
  where
    told_as : ℕ → Sets → layers.Told
    told_as a t = record { au = a; payload = payload_of t.sps; format = t.format }

pub no-sequence : (past : List Judged) (p : Fact) → is_start (look past p) p ≡ false → is_sequence_start (look past p) p ≡ false
unfolding is_start is_sequence_start
no-sequence past p none = go (nat_eq (layer p) 0) refl none
  where
    starts : Bool
    starts = is_idr_or_bla p || is_anew (look past p)

    go : (b : Bool) → nat_eq (layer p) 0 ≡ b → cond b (is_sequence_start (look past p) p) (is_picture p && starts_layer (look past p) p) ≡ false → is_sequence_start (look past p) p ≡ false
    go true e h = h
    go false e h = ap (λ b. (b && is_picture p) && starts) e

own-stands : {P : Type 0} (l : LayerValue P) (past : List Judged) (p : Fact) (c : ℤ) (keep : List Keep) (latest : LatestValue) (start : Bool) → is_decoded (look past p) p ≡ true → is_start (look past p) p ≡ start →
    (is_sequence_start (look past p) p ≡ false → layers.Stands l past (layer p) None) → Unbroken past p → count (look past p) p ≡ Some c →
    keep ≡ kept_of (set_for (look past p) p) (told (held (look past p) p)) → told_of_kept latest ≡ told_of_fact p → layers.IsSound (held_of (judged past p ∷ past) (layer p)) →
    layers.Stands (with_decoded start keep latest (with_count (asked_within (look past p) p) l)) (judged past p ∷ past) (layer p) (Some (c, au p))
own-stands l past p c keep latest true decoded starts stands u is kept told_is sound =
    start-step l past p c keep latest starts (counts-start l.counts past p starts ∙ counted-ok past p c decoded u is) told_is sound
own-stands l past p c keep latest false decoded goes stands u is kept told_is sound =
    let h : layers.Stands l past (layer p) None = stands (no-sequence past p goes) in
    decoded-step l past p c keep latest h decoded goes (counts-decoded l past p None h decoded ∙ counted-ok past p c decoded u is)
    (kept ∙ ap (kept_of (set_for (look past p) p)) (sym (found-told l past p h) ∙ ap (λ b. found b l) goes)) told_is sound

other-stands : {R W P : Type 0} (d : Decoder R W P) (past : List Judged) (p : Fact) (n : ℕ) → IsReady d past p → is_picture p ≡ true → n < 64 → nat_eq (layer p) n ≡ false →
    layers.Stands (layer_at d.layers.items n) (judged past p ∷ past) n None
other-stands {R} {W} {P} d past p n r picture lt other = go (is_sequence_start (look past p) p) refl
  where
    go : (b : Bool) → is_sequence_start (look past p) p ≡ b → layers.Stands (layer_at d.layers.items n) (judged past p ∷ past) n None
    go true e = subst (λ (l : LayerValue P). layers.Stands l (judged past p ∷ past) n None) (sym (r.forgotten e n lt)) (forgotten past p n other (begins-is past p picture e))
    go false e = other-layer (layer_at d.layers.items n) past p n None other (begins-none past p picture e) (r.layers_are e n lt)

-- the picture in the making is of the picture's layer
pub made-layer : {R W P : Type 0} (m : Making R W P) (k : ℕ) (made : ℤ × ℕ) → made_in k m ≡ Some made → m.shown.layer ≡ k
made-layer m k made h = go (nat_eq m.shown.layer k) refl h
  where
    go : (b : Bool) → nat_eq m.shown.layer k ≡ b → cond b (Some (m.shown.count, m.au)) None ≡ Some made → m.shown.layer ≡ k
    go true e h = eqb-true m.shown.layer k e
    go false e wrong = absurd (let w : None ≡ Some made = wrong in cc)

layers-stand : {R W P : Type 0} (kept counted_kept after : List (LayerValue P)) (past : List Judged) (k : ℕ) (l counted_l : LayerValue P) (made : ℤ × ℕ) (m : Making R W P) → length kept ≡ 64 → k < 64 →
    counted_kept ≡ slice_set kept k counted_l → after ≡ slice_set counted_kept k l → made_in k m ≡ Some made →
    layers.Stands l past k (Some made) → ((n : ℕ) → n < 64 → nat_eq k n ≡ false → layers.Stands (layer_at kept n) past n None) →
    (n : ℕ) → n < 64 → layers.Stands (layer_at after n) past n (made_in n m)
layers-stand {R} {W} {P} kept counted_kept after past k l counted_l made m all lt counts sets is own others n less = go (nat_eq k n) refl
  where
    room : k < length counted_kept
    room = let e : length counted_kept ≡ length kept = ap length counts ∙ length-set kept k counted_l in omega arith

    here : layer_at after k ≡ l
    here = ap (λ (xs : List (LayerValue P)). layer_at xs k) sets ∙ get_or-set_same counted_kept k l no_pictures room

    elsewhere : (n ≡ k → ⊥) → layer_at after n ≡ layer_at kept n
    elsewhere other =
        ap (λ (xs : List (LayerValue P)). layer_at xs n) sets ∙ get_or-set_other counted_kept k n l no_pictures other
        ∙ ap (λ (xs : List (LayerValue P)). layer_at xs n) counts ∙ get_or-set_other kept k n counted_l no_pictures other

    none : nat_eq k n ≡ false → made_in n m ≡ None
    none e = ap (λ b. cond b (Some (m.shown.count, m.au)) None) (ap (λ j. nat_eq j n) (made-layer m k made is) ∙ e)

    go : (b : Bool) → nat_eq k n ≡ b → layers.Stands (layer_at after n) past n (made_in n m)
    go true e =
        subst (λ (j : ℕ). layers.Stands (layer_at after j) past j (made_in j m)) (eqb-true k n e)
        (subst (λ (x : LayerValue P). layers.Stands x past k (made_in k m)) (sym here) (subst (layers.Stands l past k) (sym is) own))
    go false e =
        let other : n ≡ k → ⊥ = λ same. eqb-false k n e (sym same) in
        subst (λ (x : LayerValue P). layers.Stands x past n (made_in n m)) (sym (elsewhere other)) (subst (layers.Stands (layer_at kept n) past n) (sym (none e)) (others n less e))

-- ---- The count of the latest base picture

pub base-more : (past : List Judged) (p q : Fact) (c old : Option ℤ) → is_picture p ≡ true → within (count (look past p) p) ≡ c → base_count past q ≡ old →
    base_count (judged past p ∷ past) q ≡ cond (nat_eq (layer p) 0) c old
unfolding look
base-more past p q c old picture is before = go (nat_eq (layer p) 0) refl
  where
    latest : Option Judged
    latest = find (λ (d : Judged). of_layer 0 d && is_picture d.fact) past

    after : (b : Bool) → nat_eq (layer p) 0 ≡ b →
        base_count (judged past p ∷ past) q ≡ within (option_and_then (λ (d : Judged). d.count) (cond (b && true) (Some (judged past p)) latest))
    after b e =
        ap (λ (f : Fact). within (option_and_then (λ (d : Judged). d.count) (cond (nat_eq (layer f) 0 && is_picture f) (Some (judged past p)) latest))) (fact-is past p)
        ∙ ap₂ (λ a b. within (option_and_then (λ (d : Judged). d.count) (cond (a && b) (Some (judged past p)) latest))) e picture

    go : (b : Bool) → nat_eq (layer p) 0 ≡ b → base_count (judged past p ∷ past) q ≡ cond b c old
    go true e = after true e ∙ ap within (count-is past p picture) ∙ is
    go false e = after false e ∙ before

-- ---- All that is kept

pub decided-keeps : {R W P : Type 0} (ready new : Decoder R W P) (counted_kept : List (LayerValue P)) (vps : VpsInForceValue) (s : FirstSegment) (start : Bool) (past : List Judged) (p : Fact) (v : Decided) (m : Making R W P) →
    IsReady ready past p → IsFirst vps s past p → IsDecoded start past p → s.head.layer < 64 → IsDecided ready.layers.items counted_kept new.order past p v → decided_rule past p ≡ None →
    layers.IsSound (held_of (judged past p ∷ past) (layer p)) →
    new.layers.items ≡ slice_set counted_kept s.head.layer (with_decoded start v.resolved.keep.items (latest_by s) (layer_at counted_kept s.head.layer)) →
    made_in s.head.layer m ≡ Some (v.count, s.au) → new.base_count ≡ cond (nat_eq s.head.layer 0) (Some v.count) ready.base_count →
    (ready.pictures + 1 < 2 ^ 64 → new.pictures ≡ ready.pictures + 1) → new.sequences ≡ ready.sequences → KeepsPictures new (judged past p ∷ past) (Some m)
decided-keeps {R} {W} {P} ready new counted_kept vps s start past p v m r f d low h rule sound after made base pictures sequences =
    let same : layer p ≡ s.head.layer = ap (λ (i : UnitHead). i.layer) f.head_is in
    let lt : layer p < 64 = subst (λ k. k < 64) (sym same) low in
    let u : Unbroken past p = unbroken past p rule in
    let l : LayerValue P = layer_at ready.layers.items (layer p) in
    let counted_l : LayerValue P = with_count (asked_within (look past p) p) l in
    let at : layer_at counted_kept (layer p) ≡ counted_l =
    ap (λ (xs : List (LayerValue P)). layer_at xs (layer p)) h.own_layer ∙ get_or-set_same ready.layers.items (layer p) counted_l no_pictures (subst (λ n. layer p < n) (sym r.all) lt) in
    let sets : new.layers.items ≡ slice_set counted_kept (layer p) (with_decoded start v.resolved.keep.items (latest_by s) counted_l) =
    after ∙ ap (λ k. slice_set counted_kept k (with_decoded start v.resolved.keep.items (latest_by s) (layer_at counted_kept k))) (sym same)
    ∙ ap (λ (x : LayerValue P). slice_set counted_kept (layer p) (with_decoded start v.resolved.keep.items (latest_by s) x)) at in
    let making : made_in (layer p) m ≡ Some (v.count, au p) = ap (λ k. made_in k m) same ∙ made ∙ ap (λ a. Some (v.count, a)) (sym f.au_is) in
    let decoded : (judged past p).decoded ≡ true = decoded-is past p f.picture ∙ d.decoded in
    let few : length (filter (λ (q : Judged). q.decoded) past) ≤ length past = few-of (λ (q : Judged). q.decoded) past in
    let counted : ready.pictures ≡ length (filter (λ (q : Judged). q.decoded) past) = r.pictures_are in
    let room : length past + 1 < 2 ^ 64 = f.few in
    let more : new.pictures ≡ ready.pictures + 1 = pictures (omega arith) in
    record {
      all = ap length sets ∙ length-set counted_kept (layer p) (with_decoded start v.resolved.keep.items (latest_by s) counted_l) ∙ ap length h.own_layer ∙ length-set ready.layers.items (layer p) counted_l ∙ r.all;
      layers_are = layers-stand ready.layers.items counted_kept new.layers.items (judged past p ∷ past) (layer p) (with_decoded start v.resolved.keep.items (latest_by s) counted_l) counted_l (v.count, au p) m r.all lt h.own_layer sets making
          (own-stands l past p v.count v.resolved.keep.items (latest_by s) start d.decoded d.start_is (λ goes. r.layers_are goes (layer p) lt) u h.counts h.keep (latest-told vps s past p f) sound)
          (λ n less other. other-stands ready past p n r f.picture less other);
      order_is = h.order_stands;
      base_is = λ q. base-more past p q (Some v.count) ready.base_count f.picture (within-is past p v.count u h.counts) (r.base_is q) ∙ ap (λ k. cond (nat_eq k 0) (Some v.count) ready.base_count) same ∙ sym base;
      pictures_are = more ∙ ap (λ n. n + 1) counted ∙ sym (one-more (λ (q : Judged). q.decoded) past (judged past p) decoded);
      sequences_are = sequences ∙ r.sequences_are;
      in_layer = subst (λ k. k < 64) (sym (made-layer m s.head.layer (v.count, s.au) made)) low;
    }
