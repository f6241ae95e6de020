-- The first segment of a picture: what is kept of a picture that is decoded.
use Rattle.std.proofs.Common.{◌≡◌, ℕ, ◌+◌, ◌<◌, ◌≤◌, ◌^◌, Bool, true, false, cond, not, ◌&&◌, List, [], ◌∷◌, suc, length, filter, None, Some, refl, ap, sym, subst, ◌∙◌, arith}
use Rattle.std.specs.Prelude.{get_or, nat_eq, option_and_then, option_map, replicate, Result, Ok, Err}
use Rattle.std.proofs.lemmas.Bool.{and_parts}
use Rattle.std.proofs.lemmas.List.{get_or-replicate, length-replicate}
use Rattle.std.proofs.lemmas.List.Filters.{length-filter_both}
use Rattle.mv_rules.specs.declared.rule.Rule.{Rule}
use Rattle.mv_units.specs.declared.head.UnitHead.{UnitHead}
use Rattle.mv_slice.specs.declared.slice.SliceHead.{SliceHead}
use Rattle.mv_pictures.specs.Counts.{count}
use Rattle.mv_pictures.specs.Facts.{Fact}
use Rattle.mv_pictures.specs.History.{judged, judgement}
use Rattle.mv_pictures.specs.Judged.{Judged, au, begins, is_base, is_picture, is_slice, layer, of_layer}
use Rattle.mv_pictures.specs.Layers.{whole}
use Rattle.mv_pictures.specs.Look.{asked, look}
use Rattle.mv_pictures.specs.PictureRules.{no_irap}
use Rattle.mv_pictures.specs.SliceFields.{head_of}
use Rattle.mv_pictures.specs.Starts.{is_decoded, is_sequence_start}
use Rattle.mv_au.specs.States as states
use Rattle.mv_au.specs.States.{answer, state_of}
use Rattle.mv_au.specs.declared.states.PicState.{PicState}
use Rattle.mv_rps.specs.RefSet.{entries_of}
use Rattle.mv_rps.proofs.EntryLaws.{entries_coded}
use Rattle.mv_walk_layer.specs.LayerValue.{LayerValue, no_pictures}
use Rattle.mv_walk_order.specs.Orders as orders
use Rattle.mv_walk_order.proofs.OrderLaws.{goes-on}
use Rattle.mv_walk_sets.specs.InForce.{VpsInForceValue}
use Rattle.mv_walk_segment.specs.Serving.{context_by}
use Rattle.mv_walk.specs.Decoders.{KeepsPictures}
use Rattle.mv_walk.specs.Firsts.{IsFirst, IsReady}
use Rattle.mv_walk.specs.declared.decoder.Decoder.{Decoder}
use Rattle.mv_walk.specs.declared.first.FirstSegment.{FirstSegment}

-- ---- What is judged of a picture

pub slice-is : (p : Fact) → is_picture p ≡ true → is_slice p ≡ true
slice-is p picture = (and_parts (is_slice p) _ picture).0

pub judged-is : (past : List Judged) (p : Fact) → is_picture p ≡ true → judged past p ≡ judgement (look past p) p
unfolding judged asked
judged-is past p picture = ap (λ b. judgement (look (cond b past []) p) p) (slice-is p picture)

pub seq-is : (past : List Judged) (p : Fact) → is_picture p ≡ true → (judged past p).seq ≡ is_sequence_start (look past p) p
unfolding judgement
seq-is past p picture = ap (λ (d : Judged). d.seq) (judged-is past p picture)

pub decoded-is : (past : List Judged) (p : Fact) → is_picture p ≡ true → (judged past p).decoded ≡ is_decoded (look past p) p
unfolding judgement
decoded-is past p picture = ap (λ (d : Judged). d.decoded) (judged-is past p picture)

pub count-is : (past : List Judged) (p : Fact) → is_picture p ≡ true → (judged past p).count ≡ count (look past p) p
unfolding judgement
count-is past p picture = ap (λ (d : Judged). d.count) (judged-is past p picture)

pub fact-is : (past : List Judged) (p : Fact) → (judged past p).fact ≡ p
unfolding judged judgement
fact-is past p = refl

of-layer : (past : List Judged) (p : Fact) (n : ℕ) → of_layer n (judged past p) ≡ nat_eq (layer p) n
of-layer past p n = ap (λ (q : Fact). nat_eq (layer q) n) (fact-is past p)

-- a base picture that starts a sequence
pub begins-is : (past : List Judged) (p : Fact) → is_picture p ≡ true → is_sequence_start (look past p) p ≡ true → begins (judged past p) ≡ true
unfolding is_sequence_start
begins-is past p picture starts =
    let base : is_base p ≡ true = (and_parts (is_base p) _ starts).0 in
    let zero : nat_eq (layer p) 0 ≡ true = (and_parts (nat_eq (layer p) 0) (is_picture p) base).0 in
    ap (λ b. b && (judged past p).seq) (of-layer past p 0 ∙ zero) ∙ (seq-is past p picture ∙ starts)

both-none : (a b : Bool) → b ≡ false → (a && b) ≡ false
both-none true b none = none
both-none false b none = refl

pub begins-none : (past : List Judged) (p : Fact) → is_picture p ≡ true → is_sequence_start (look past p) p ≡ false → begins (judged past p) ≡ false
begins-none past p picture goes = both-none (of_layer 0 (judged past p)) (judged past p).seq (seq-is past p picture ∙ goes)

-- ---- What becomes of it

pub head-of : (p : Fact) (header : SliceHead) → p.header ≡ Some (Ok header) → head_of p ≡ Some header
head-of p header h = ap (λ r. option_and_then (λ r. elim r [ Ok v ↦ Some v | Err fault ↦ None ]) r) h

pub state-asked : (vps : VpsInForceValue) (s : FirstSegment) (past : List Judged) (p : Fact) (n : ℕ) → IsFirst vps s past p → n ≡ length (entries_of (context_by vps.value s.served.active s.head) s.header) →
    states.IsAsked vps.value (record { layer = s.head.layer; kind = s.head.kind; entries = n }) past p
state-asked vps s past p n f e = record {
  picture = f.picture;
  layer_is = sym (ap (λ (h : UnitHead). h.layer) f.head_is);
  kind_is = sym (ap (λ (h : UnitHead). h.kind) f.head_is);
  entries_are = e ∙ ap length (entries_coded p (context_by vps.value s.served.active s.head) s.header f.context_is (head-of p s.header f.header_is.header_is));
  vps_is = ap whole f.vps_is;
  base = λ above. subst (λ a. option_map (λ (b : Judged). nat_eq (au b.fact) a) (look past p).base ≡ Some true) (sym f.au_is) (f.behind_base (ap (λ (h : UnitHead). nat_eq h.layer 0) (sym f.head_is) ∙ above));
}

pub state-told : (past : List Judged) (p : Fact) (state : PicState) → Ok state ≡ answer past p → (no_irap (look past p) p ≡ false) × (state ≡ state_of (look past p) p)
unfolding answer
state-told past p state h = go (no_irap (look past p) p) refl h
  where
    go : (b : Bool) → no_irap (look past p) p ≡ b → Ok state ≡ cond b (Err Rule.NoIrap) (Ok (state_of (look past p) p)) → (no_irap (look past p) p ≡ false) × (state ≡ state_of (look past p) p)
    go true e wrong = absurd (let w : Path (Result PicState Rule) (Ok state) (Err Rule.NoIrap) = wrong in cc)
    go false e same = (e, (let w : Path (Result PicState Rule) (Ok state) (Ok (state_of (look past p) p)) = same in cc))

pub state-refused : (past : List Judged) (p : Fact) (rule : Rule) → Err rule ≡ answer past p → (no_irap (look past p) p ≡ true) × (rule ≡ Rule.NoIrap)
unfolding answer
state-refused past p rule h = go (no_irap (look past p) p) refl h
  where
    go : (b : Bool) → no_irap (look past p) p ≡ b → Err rule ≡ cond b (Err Rule.NoIrap) (Ok (state_of (look past p) p)) → (no_irap (look past p) p ≡ true) × (rule ≡ Rule.NoIrap)
    go true e same = (e, (let w : Path (Result PicState Rule) (Err rule) (Err Rule.NoIrap) = same in cc))
    go false e wrong = absurd (let w : Path (Result PicState Rule) (Err rule) (Ok (state_of (look past p) p)) = wrong in cc)

-- ---- It starts a sequence

pub few-of : (test : Judged → Bool) (past : List Judged) → length (filter test past) ≤ length past
few-of test past = omega (arith, length-filter_both test (λ d. not (test d)) (λ d. refl) past)

pub one-more : (test : Judged → Bool) (past : List Judged) (d : Judged) → test d ≡ true → length (filter test (d ∷ past)) ≡ length (filter test past) + 1
one-more test past d is = let e : length (filter test (d ∷ past)) ≡ suc (length (filter test past)) = ap (λ b. length (cond b (d ∷ filter test past) (filter test past))) is in omega arith

pub no-more : (test : Judged → Bool) (past : List Judged) (d : Judged) → test d ≡ false → length (filter test (d ∷ past)) ≡ length (filter test past)
no-more test past d none = ap (λ b. length (cond b (d ∷ filter test past) (filter test past))) none

pub ready-start : {R W P : Type 0} (old new : Decoder R W P) (vps : VpsInForceValue) (s : FirstSegment) (past : List Judged) (p : Fact) → KeepsPictures old past None → IsFirst vps s past p →
    is_sequence_start (look past p) p ≡ true → new.layers.items ≡ replicate (length old.layers.items) no_pictures → orders.StandsBefore new.order past (judged past p) →
    new.base_count ≡ old.base_count → new.pictures ≡ old.pictures → (old.sequences + 1 < 2 ^ 64 → new.sequences ≡ old.sequences + 1) → IsReady new past p
ready-start {R} {W} {P} old new vps s past p k f starts kept order base pictures sequences =
    let are : new.layers.items ≡ replicate 64 no_pictures = kept ∙ ap (λ n. replicate n no_pictures) k.all in
    let counted_more : length (filter begins (judged past p ∷ past)) ≡ length (filter begins past) + 1 = one-more begins past (judged past p) (begins-is past p f.picture starts) in
    let few : length (filter begins past) ≤ length past = few-of begins past in
    let at_old : old.sequences ≡ length (filter begins past) = k.sequences_are in
    let room : length past + 1 < 2 ^ 64 = f.few in
    let more : new.sequences ≡ old.sequences + 1 = sequences (omega arith) in
    record {
      all = ap length are ∙ length-replicate 64 (no_pictures {P = P});
      layers_are = λ goes n lt. absurd (let e : true ≡ false = sym starts ∙ goes in cc);
      forgotten = λ same n lt. ap (λ (xs : List (LayerValue P)). get_or xs n no_pictures) are ∙ get_or-replicate 64 n (no_pictures {P = P}) (no_pictures {P = P}) lt;
      order_is = order;
      base_is = λ q. k.base_is q ∙ sym base;
      pictures_are = pictures ∙ k.pictures_are;
      sequences_are = more ∙ ap (λ n. n + 1) at_old ∙ sym counted_more;
    }

-- and where it starts none, what is kept is ready
pub ready-goes : {R W P : Type 0} (d : Decoder R W P) (past : List Judged) (p : Fact) → KeepsPictures d past None → is_picture p ≡ true → is_sequence_start (look past p) p ≡ false → IsReady d past p
ready-goes d past p k picture goes = record {
  all = k.all;
  layers_are = λ same n lt. k.layers_are n lt;
  forgotten = λ starts n lt. absurd (let e : true ≡ false = sym starts ∙ goes in cc);
  order_is = goes-on d.order past p (slice-is p picture) (seq-is past p picture ∙ goes) k.order_is;
  base_is = k.base_is;
  pictures_are = k.pictures_are;
  sequences_are = k.sequences_are ∙ sym (no-more begins past (judged past p) (begins-none past p picture goes));
}
