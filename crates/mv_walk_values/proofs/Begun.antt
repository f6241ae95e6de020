-- What is kept, made and shown behind the first segment of a decoded picture are the values of its terms.
use Rattle.std.proofs.Common.{◌≡◌, ℕ, ◌-◌, ◌<◌, ℤ, Bool, true, false, cond, ◌&&◌, All, List, [], ◌∷◌, filter, get_or, length, map, reverse, Option, Some, None, refl, sym, ap, ap₂, ◌∙◌, subst, arith}
use Rattle.std.specs.Prelude.{nat_eq, slice_set}
use Rattle.std.specs.List.{enumerate_from, filter_map, find}
use Rattle.std.proofs.lemmas.Bool.{and_parts, eq-eqb, eqb-true}
use Rattle.std.proofs.lemmas.List.{get_or-set_other, get_or-set_same}
use Rattle.std.proofs.lemmas.List.Elements.{All-filter, All-weaker, filter_passes}
use Rattle.mv_history.specs.Order.{sorted}
use Rattle.mv_history.proofs.Instances.{All-sorted}
use Rattle.mv_history.proofs.Kept.{All-both}
use Rattle.mv_layers.specs.OutputLayers.{is_among}
use Rattle.mv_dpb.specs.declared.shown.Shown.{Shown}
use Rattle.mv_dpb.specs.Waiting.{WaitingValue}
use Rattle.mv_pictures.specs.Facts.{Fact}
use Rattle.mv_pictures.specs.Held.{Held, held, longs, names}
use Rattle.mv_pictures.specs.History.{judged}
use Rattle.mv_pictures.specs.Judged.{Judged, au, begins, is_picture, layer, vps_at}
use Rattle.mv_pictures.specs.Layers.{directs}
use Rattle.mv_pictures.specs.Look.{look}
use Rattle.mv_pictures.specs.Output.{is_before, is_output, outputs}
use Rattle.mv_pictures.specs.SliceFields.{is_put_out}
use Rattle.mv_pictures.specs.Starts.{is_decoded, is_sequence_start, is_start}
use Rattle.mv_commuting.specs.HeldOneMore.{held_of}
use Rattle.mv_rebuild.specs.Parts.{Making}
use Rattle.mv_rps.specs.Standing.{kept_by_name, told}
use Rattle.mv_rps.proofs.FoundLaws.{All_reverse}
use Rattle.mv_rps.proofs.StandLaws.{kept_told}
use Rattle.mv_walk_layer.specs.LayerValue.{LatestValue, LayerValue, no_pictures, with_decoded}
use Rattle.mv_walk_layer.specs.Standing.{IsSound}
use Rattle.mv_walk_layer.proofs.Holding.{apart-held, counted-held}
use Rattle.mv_walk_layer.proofs.Stepping.{held-past}
use Rattle.mv_walk_values.specs.Beginning.{AreReferences, IsBegunWith, ValuesReady, Referring}
use Rattle.mv_walk_values.specs.Holding.{HoldsValues}
use Rattle.mv_walk_values.specs.InMaking.{IsInMaking, MadeValue, made_in}
use Rattle.mv_walk_values.specs.Orderly.{IsOrderly}
use Rattle.mv_walk_values.specs.Showing.{ShowsValues, in_order}
use Rattle.mv_walk_values.specs.Standing.{ValuesStand}
use Rattle.mv_walk_values.specs.Values.{is_segment_of, value_of}
use Rattle.mv_walk_values.proofs.FirstFacts.{begins_by, decoded_by, decoded_picture, held_other, held_own, longs_by, names_by, new_picture, no_start_calm, shown_by}
use Rattle.mv_walk_values.proofs.Holding.{holds_decoded, holds_kept, holds_start}
use Rattle.mv_walk_values.proofs.Near.{held_where}
use Rattle.mv_walk_values.proofs.Orderly.{new_none}
use Rattle.mv_walk_values.proofs.Referred.{begun_are}
use Rattle.mv_walk_values.proofs.Showing.{same_whole, shows_begun, shows_kept}
use Rattle.mv_walk_values.proofs.Standing.{fact_is}

-- what holds of the decoded units of a history holds of its output pictures
output_decoded : (o : ℕ) (d : Judged) → is_output o d ≡ true → d.decoded ≡ true
unfolding is_output
output_decoded o d h = (and_parts d.decoded (is_among (outputs d.seq_vps o) (layer d.fact)) (and_parts (d.decoded && is_among (outputs d.seq_vps o) (layer d.fact)) (is_put_out d.fact) h).0).0

pub outputs_where : (Q : Judged → Type 0) (o : ℕ) (past : List Judged) → All (λ (d : Judged). d.decoded ≡ true → Q d) past → All Q (filter (is_output o) past)
outputs_where Q o past h =
    All-weaker (λ (d : Judged). (is_output o d ≡ true) × (d.decoded ≡ true → Q d)) Q (λ d both. both.1 (output_decoded o d both.0)) (filter (is_output o) past)
    (All-both (λ (d : Judged). is_output o d ≡ true) (λ (d : Judged). d.decoded ≡ true → Q d) (filter (is_output o) past) (filter_passes (is_output o) past)
    (All-filter (is_output o) (λ (d : Judged). d.decoded ≡ true → Q d) past h))

-- a first segment is a segment of no output picture before it
pub first_none : (o : ℕ) (past : List Judged) (p : Fact) → IsOrderly (judged past p ∷ past) → is_picture p ≡ true → All (λ d. is_segment_of d (judged past p) ≡ false) (in_order o past false)
first_none o past p orderly new =
    All-sorted (λ d. is_segment_of d (judged past p) ≡ false) is_before (filter (is_output o) past)
    (outputs_where (λ d. is_segment_of d (judged past p) ≡ false) o past (new_none (judged past p) past orderly (new_picture past p new)))

module _ {W P : Type 0} (meaning : Making W P) (o : ℕ) (past : List Judged) (p : Fact) (layers : List (LayerValue P)) (q : Option (WaitingValue P)) (shown : List (Shown × P)) (r : Referring) (latest : LatestValue) (m : MadeValue W)
    (orderly : IsOrderly (judged past p ∷ past)) (new : All (λ (x : Judged). is_segment_of (judged past p) x ≡ false) past) (decoded : is_decoded (look past p) p ≡ true) (low : layer p < 64)
    (below : All (λ n. n < 64) (directs (vps_at p) (layer p))) (ready : ValuesReady meaning.picture o past p layers q shown) (are : AreReferences past p r) (begun : IsBegunWith meaning o past p layers r m) where
  e : Judged
  e = judged past p

  picture : is_picture p ≡ true
  picture = decoded_picture (look past p) p decoded

  none : All (λ (d : Judged). d.decoded ≡ true → is_segment_of d (judged past p) ≡ false) past
  none = new_none (judged past p) past orderly (new_picture past p picture)

  held_none : (n : ℕ) → All (λ (h : Held). is_segment_of h.it (judged past p) ≡ false) (reverse (held_of past n))
  held_none n = All_reverse (λ (h : Held). is_segment_of h.it (judged past p) ≡ false) (held_of past n) (held_where (λ d. is_segment_of d (judged past p) ≡ false) past n none)

  own : LayerValue P
  own = get_or layers (layer p) no_pictures

  -- just the pictures are kept that it names
  keeps_named : is_start (look past p) p ≡ false → r.keep ≡ filter_map (kept_by_name (judged past p).names (judged past p).longs) (enumerate_from 0 (told (held_of past (layer p))))
  keeps_named start =
      are.keep
      ∙ kept_told (look past p) p decoded (counted-held (held (look past p) p) sound) (apart-held (held (look past p) p) sound.falls)
      ∙ ap (λ hs. filter_map (kept_by_name (names (look past p) p) (longs (look past p) p)) (enumerate_from 0 (told hs))) found
      ∙ ap₂ (λ ns ls. filter_map (kept_by_name ns ls) (enumerate_from 0 (told (held_of past (layer p))))) (sym (names_by past p picture)) (sym (longs_by past p picture))
    where
      found : held (look past p) p ≡ held_of past (layer p)
      found = held-past past p start

      sound : IsSound (held (look past p) p)
      sound = subst IsSound (sym found) (ready.sound start)

  -- its own layer
  own_holds : (c : ℤ × ℕ) (s : Bool) → is_start (look past p) p ≡ s → HoldsValues meaning.picture (with_decoded s r.keep latest own) (judged past p ∷ past) (layer p) (Some c)
  unfolding own
  own_holds c true is = holds_start meaning.picture own r.keep latest (judged past p) past (layer p) c (held_own past p picture true decoded is)
  own_holds c false is =
      holds_decoded meaning.picture own r.keep latest (judged past p) past (layer p) c (held_own past p picture false decoded is) (keeps_named is) (held_none (layer p))
      (ready.held (no_start_calm (look past p) p is) (layer p) low)

  -- another layer
  other_holds : (n : ℕ) → n < 64 → nat_eq (layer p) n ≡ false → HoldsValues meaning.picture (get_or layers n no_pictures) (judged past p ∷ past) n None
  other_holds n lt other = go (is_sequence_start (look past p) p) refl (held_other past p picture n other)
    where
      go : (b : Bool) → is_sequence_start (look past p) p ≡ b → held_of (judged past p ∷ past) n ≡ cond b [] (held_of past n) → HoldsValues meaning.picture (get_or layers n no_pictures) (judged past p ∷ past) n None
      go true is held_is =
          ap (map (λ s. s.picture)) (ready.forgotten is n lt)
          ∙ ap (λ hs. map (λ (h : Held). value_of meaning.picture (judged past p ∷ past) h.it) (reverse hs)) (sym held_is)
      go false is held_is = holds_kept meaning.picture (get_or layers n no_pictures) (judged past p) past n None held_is (held_none n) (ready.held is n lt)

  made_there : (n : ℕ) (b : Bool) → nat_eq (layer p) n ≡ b → made_in (Some m) n ≡ cond b (Some (m.shown.count, m.au)) None
  made_there n b is = ap (λ (s : Shown). cond (nat_eq s.layer n) (Some (m.shown.count, m.au)) None) begun.shown_is ∙ ap (λ b. cond b (Some (m.shown.count, m.au)) None) is

  after : List (LayerValue P)
  after = slice_set layers (layer p) (with_decoded (is_start (look past p) p) r.keep latest (get_or layers (layer p) no_pictures))

  each_holds : (n : ℕ) → n < 64 → HoldsValues meaning.picture (get_or after n no_pictures) (judged past p ∷ past) n (made_in (Some m) n)
  unfolding after own
  each_holds n lt = go (nat_eq (layer p) n) refl
    where
      go : (b : Bool) → nat_eq (layer p) n ≡ b → HoldsValues meaning.picture (get_or after n no_pictures) (judged past p ∷ past) n (made_in (Some m) n)
      go true is =
          subst (λ k. HoldsValues meaning.picture (get_or after k no_pictures) (judged past p ∷ past) k (made_in (Some m) k)) (eqb-true (layer p) n is)
          (subst (λ (x : Option (ℤ × ℕ)). HoldsValues meaning.picture (get_or after (layer p) no_pictures) (judged past p ∷ past) (layer p) x) (sym (made_there (layer p) true (eq-eqb (layer p) (layer p) refl)))
          (subst (λ (l : LayerValue P). HoldsValues meaning.picture l (judged past p ∷ past) (layer p) (Some (m.shown.count, m.au)))
          (sym (get_or-set_same layers (layer p) (with_decoded (is_start (look past p) p) r.keep latest own) no_pictures (let le : layer p < length layers = omega (arith, low, ready.all) in le)))
          (own_holds (m.shown.count, m.au) (is_start (look past p) p) refl)))
      go false is =
          subst (λ (x : Option (ℤ × ℕ)). HoldsValues meaning.picture (get_or after n no_pictures) (judged past p ∷ past) n x) (sym (made_there n false is))
          (subst (λ (l : LayerValue P). HoldsValues meaning.picture l (judged past p ∷ past) n None)
          (sym (get_or-set_other layers (layer p) n (with_decoded (is_start (look past p) p) r.keep latest own) no_pictures
          (λ same. let wrong : true ≡ false = sym (eq-eqb (layer p) n (sym same)) ∙ is in cc)))
          (other_holds n lt is))

  in_the_making : IsInMaking meaning o (judged past p ∷ past) m
  in_the_making =
      record {
        it = judged past p;
        latest = ap (λ b. cond b (Some (judged past p)) (find (λ (d : Judged). is_picture d.fact) past)) (new_picture past p picture);
        decoded = decoded_by past p picture ∙ decoded;
        work_stands = subst (meaning.stands m.work) (begun_are meaning.picture o past p layers q shown orderly decoded low ready below r are new) begun.work_stands;
        shown_is = begun.shown_is ∙ sym (shown_by past p picture);
        au_is = begun.au_is ∙ ap au (sym (fact_is past p));
        output_is = begun.output_is;
      }

  outputs_none : All (λ d. is_segment_of d (judged past p) ≡ false) (in_order o past false)
  outputs_none = first_none o past p orderly picture

  shows : ShowsValues meaning.picture o (judged past p ∷ past) m.output q shown
  shows = go (is_sequence_start (look past p) p) refl
    where
      same : in_order o (judged past p ∷ past) m.output ≡ in_order o past false
      same = ap (λ b. in_order o (judged past p ∷ past) b) begun.output_is ∙ ap (sorted is_before) (same_whole o (judged past p) past)

      go : (b : Bool) → is_sequence_start (look past p) p ≡ b → ShowsValues meaning.picture o (judged past p ∷ past) m.output q shown
      go true is = shows_begun meaning.picture o (judged past p) past false m.output q q shown same outputs_none (ready.none_wait is) (ready.none_wait is) ready.output
      go false is =
          shows_kept meaning.picture o (judged past p) past false m.output q shown same outputs_none
          (ap (λ b. length (cond b (judged past p ∷ filter begins past) (filter begins past)) - 1) (begins_by past p picture ∙ is)) ready.output

  pub first_stands : ValuesStand meaning o (judged past p ∷ past) (slice_set layers (layer p) (with_decoded (is_start (look past p) p) r.keep latest (get_or layers (layer p) no_pictures))) (Some m) q shown
  unfolding after
  first_stands = record { held = each_holds; made = in_the_making; output = shows }
