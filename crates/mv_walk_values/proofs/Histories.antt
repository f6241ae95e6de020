-- While no unit breaks a rule, histories are orderly.
use Rattle.std.proofs.Common.{◌≡◌, ℕ, ◌+◌, ◌<◌, ◌≤◌, Bool, true, false, not, ◌&&◌, ◌||◌, All, List, [], ◌∷◌, ◌⊎◌, inl, inr, get_or, reverse, refl, sym, ap, ◌∙◌, subst, arith, if◌then◌else◌}
use Rattle.std.specs.Prelude.{nat_eq}
use Rattle.std.proofs.lemmas.Bool.{and_parts, cases_lt}
use Rattle.std.proofs.lemmas.List.Elements.{All-cons, All-nil, All-weaker}
use Rattle.mv_history.specs.History.{Throughout, run}
use Rattle.mv_history.proofs.Kept.{All-unmap}
use Rattle.mv_pictures.specs.AccessUnits.{Placed, all_placed, begins as begins_unit, has_slices, is_trigger, number, placed}
use Rattle.mv_pictures.specs.Facts.{fact, facts}
use Rattle.mv_pictures.specs.History.{facts_of, history, history_of, judged, judgement}
use Rattle.mv_pictures.specs.Items.{Item, is_first_segment, is_known, is_picture as item_picture, is_slice as item_slice, item, items}
use Rattle.mv_pictures.specs.Judged.{Judged, au, begins, is_picture, is_slice}
use Rattle.mv_pictures.specs.Kinds.{is_opening_kind, is_slice_kind}
use Rattle.mv_pictures.specs.Look.{asked, look}
use Rattle.mv_pictures.specs.Starts.{is_anew, is_decoded, is_idr_or_bla, is_sequence_start, is_skipped}
use Rattle.mv_pictures.specs.Verdict.{breaks_none}
use Rattle.mv_commuting.proofs.Facts.{this}
use Rattle.mv_commuting.proofs.OneVps.{no_slice}
use Rattle.mv_commuting.proofs.Places.{begun, none_yet, numbers_within}
use Rattle.mv_commuting.proofs.Rising.{numbers-rise-of}
use Rattle.mv_commuting.proofs.Shown.{placed_of_hist}
use Rattle.mv_commuting.proofs.SoFar.{pictures-so-far}
use Rattle.mv_commuting.proofs.Steady.{hist, this_fact, this_judged}
use Rattle.mv_walk_values.specs.Orderly.{IsOrderly}

-- what is decoded is a picture
decoded_pictures : (us : List (List ℕ)) → All (λ (d : Judged). d.decoded ≡ true → is_picture d.fact ≡ true) (hist us)
unfolding items run all_placed facts history
decoded_pictures [] = All-nil (λ (d : Judged). d.decoded ≡ true → is_picture d.fact ≡ true)
decoded_pictures (u ∷ us) = All-cons (λ (d : Judged). d.decoded ≡ true → is_picture d.fact ≡ true) (this_judged us u) (hist us) now (decoded_pictures us)
  where
    now : (this_judged us u).decoded ≡ true → is_picture (this_judged us u).fact ≡ true
    now = unfold judged judgement is_decoded in λ h. (and_parts (item_picture (this_fact us u).placed.item) (not (is_skipped (look (asked (hist us) (this_fact us u)) (this_fact us u)) (this_fact us u))) h).0

-- before a unit that may begin an access unit this has no slice segment
trigger_alone : (us : List (List ℕ)) (u : List ℕ) → is_trigger (item (items us) u) ≡ true → All (λ (q : Placed). item_slice q.item ≡ true → q.au < (this us u).au) (all_placed (items us))
unfolding all_placed placed number begins_unit
trigger_alone us u is = go (has_slices (run placed (items us))) refl
  where
    exact : (b : Bool) → has_slices (run placed (items us)) ≡ b → (this us u).au ≡ begun (run placed (items us)) + (if b then 1 else 0)
    exact b e =
        ap (λ t. begun (run placed (items us)) + (if t && has_slices (run placed (items us)) then 1 else 0)) is
        ∙ ap (λ b. begun (run placed (items us)) + (if b then 1 else 0)) e

    go : (b : Bool) → has_slices (run placed (items us)) ≡ b → All (λ (q : Placed). item_slice q.item ≡ true → q.au < (this us u).au) (run placed (items us))
    go true e =
        let one : (this us u).au ≡ begun (run placed (items us)) + 1 = exact true e in
        All-weaker (λ (q : Placed). q.au ≤ begun (run placed (items us))) (λ (q : Placed). item_slice q.item ≡ true → q.au < (this us u).au) (λ q le slice. omega (arith, one, le)) (run placed (items us)) (numbers_within (items us))
    go false e =
        let same : (this us u).au ≡ begun (run placed (items us)) + 0 = exact false e in
        λ k d low slice.
        let within : (get_or (run placed (items us)) k d).au ≤ begun (run placed (items us)) = numbers_within (items us) k d low in
        let other : (get_or (run placed (items us)) k d).au ≡ begun (run placed (items us)) → ⊥ = no_slice (begun (run placed (items us))) (run placed (items us)) (none_yet (items us) e) k d low slice in
        below (get_or (run placed (items us)) k d).au (begun (run placed (items us))) (this us u).au within other same
      where
        below : (a b n : ℕ) → a ≤ b → (a ≡ b → ⊥) → n ≡ b + 0 → a < n
        below a b n le ne is = pick (cases_lt a b)
          where
            pick : (a < b) ⊎ (b ≤ a) → a < n
            pick (inl less) = omega (arith, less, is)
            pick (inr more) = absurd (ne (omega (arith, le, more)))

-- a base picture that starts a sequence may begin an access unit
starts_trigger : (us : List (List ℕ)) (u : List ℕ) → begins (this_judged us u) ≡ true → is_trigger (item (items us) u) ≡ true
unfolding judged judgement is_sequence_start fact placed
starts_trigger us u h = triggers (is_known i) (is_slice_kind i.head.kind) (is_first_segment i.opening) (nat_eq i.head.layer 0) (is_opening_kind i.head.kind) base
  where
    i : Item
    i = item (items us) u

    base : (nat_eq i.head.layer 0 && (is_known i && is_slice_kind i.head.kind && is_first_segment i.opening)) ≡ true
    base =
        (and_parts (nat_eq i.head.layer 0 && item_picture i) (is_idr_or_bla (this_fact us u) || is_anew (look (asked (hist us) (this_fact us u)) (this_fact us u)))
        (and_parts (nat_eq i.head.layer 0) ((nat_eq i.head.layer 0 && item_picture i) && (is_idr_or_bla (this_fact us u) || is_anew (look (asked (hist us) (this_fact us u)) (this_fact us u)))) h).1).0

    triggers : (k s f l o : Bool) → (l && (k && s && f)) ≡ true → (k && l && (o || (k && s && f))) ≡ true
    triggers true true true true true h = refl
    triggers true true true true false h = refl
    triggers true true true false o h = absurd (let wrong : false ≡ true = h in cc)
    triggers true true false true o h = absurd (let wrong : false ≡ true = h in cc)
    triggers true true false false o h = absurd (let wrong : false ≡ true = h in cc)
    triggers true false f true o h = absurd (let wrong : false ≡ true = h in cc)
    triggers true false f false o h = absurd (let wrong : false ≡ true = h in cc)
    triggers false s f true o h = absurd (let wrong : false ≡ true = h in cc)
    triggers false s f false o h = absurd (let wrong : false ≡ true = h in cc)

based_hist : (us : List (List ℕ)) → Throughout (λ before (d : Judged). begins d ≡ true → All (λ (e : Judged). is_slice e.fact ≡ true → au e.fact < au d.fact) before) (hist us)
unfolding items run all_placed facts history
based_hist [] = tt
based_hist (u ∷ us) = (now, based_hist us)
  where
    now : begins (this_judged us u) ≡ true → All (λ (e : Judged). is_slice e.fact ≡ true → au e.fact < au (this_judged us u).fact) (hist us)
    now = λ h.
        All-unmap (λ (q : Placed). item_slice q.item ≡ true → q.au < au (this_judged us u).fact) (λ (d : Judged). d.fact.placed) (hist us)
        (subst (All (λ (q : Placed). item_slice q.item ≡ true → q.au < au (this_judged us u).fact)) (sym (placed_of_hist us))
        (unfold judged judgement fact in trigger_alone us u (starts_trigger us u h)))

pub orderly : (us : List (List ℕ)) → breaks_none (history_of us) ≡ true → IsOrderly (history_of us)
unfolding history_of facts_of
orderly us h = record {
  numbers = numbers-rise-of us;
  rises = pictures-so-far us h;
  pictures = decoded_pictures (reverse us);
  based = based_hist (reverse us);
}
