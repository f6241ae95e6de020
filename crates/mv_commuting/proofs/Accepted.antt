-- An extract of an accepted stream is accepted.
use Rattle.std.proofs.Common.{◌≡◌, ℕ, ◌≤◌, Bool, true, false, cond, not, ◌&&◌, List, [], ◌∷◌, ◌++◌, length, reverse, None, refl, ap, sym, subst, ◌∙◌, filter, map, arith}
use Rattle.std.specs.Prelude.{nat_lt}
use Rattle.std.specs.List.{find, range_with_len}
use Rattle.std.specs.Option.{option_or}
use Rattle.std.proofs.lemmas.Bool.{and_from, and_parts, le-ltb, ltb-false}
use Rattle.std.proofs.lemmas.List.Folds.{find-append}
use Rattle.mv_rules.specs.declared.rule.Rule.{Rule}
use Rattle.mv_history.specs.History.{run}
use Rattle.mv_history.proofs.Kept.{filter-map, filter_swap, list_any-filter}
use Rattle.mv_pictures.specs.Layers.{sets_at}
use Rattle.mv_pictures.specs.Items.{items, stays}
use Rattle.mv_pictures.specs.AccessUnits.{all_placed, has_changed_vps, layer_order, no_base, orphan_slice, placed, tid_differs}
use Rattle.mv_pictures.specs.Facts.{Fact, fact, facts}
use Rattle.mv_pictures.specs.Judged.{Judged, au, is_base, of_layer}
use Rattle.mv_pictures.specs.Starts.{is_sequence_start}
use Rattle.mv_pictures.specs.Look.{Look, asked, look, sequence}
use Rattle.mv_pictures.specs.Output.{distinct, is_ahead, is_late, is_output, reorder, sequence_before, units_ahead}
use Rattle.mv_pictures.specs.PictureRules.{vps_mid_cvs}
use Rattle.mv_pictures.specs.History.{history, history_of, judged, judgement}
use Rattle.mv_pictures.specs.Rules.{Case, case, cases, item_cases, output_cases, picture_cases, set_cases, slice_cases}
use Rattle.mv_pictures.specs.Verdict.{breaks_none, is_accepted, no_picture}
use Rattle.mv_pictures.specs.Extract.{extract}
use Rattle.mv_commuting.proofs.Acceptance.{address_order-kept, changed-kept, layer_order-kept, no_base-kept, orphan-kept, slice_differs-kept, tid_differs-kept}
use Rattle.mv_commuting.proofs.Alike.{judged_stays, sequence-kept}
use Rattle.mv_commuting.proofs.Extracts.{accepted-fine, hist-of, history-extract}
use Rattle.mv_commuting.proofs.Facts.{all_facts, fact_stays, facts_placed, this}
use Rattle.mv_commuting.proofs.Fewer.{fewer_distinct, kept_among}
use Rattle.mv_commuting.proofs.Histories.{AllNone, BreaksNone, BreaksNoneOf, all_none, asked-kept, breaks_none-at, breaks_none-more, breaks_none-of, history_facts, none_from}
use Rattle.mv_commuting.proofs.Items.{base_stays, each}
use Rattle.mv_commuting.proofs.Places.{of_item}
use Rattle.mv_commuting.proofs.Steady.{AllFine, IsFine, hist, this_fact, this_judged}

-- ---- Late pictures

late-kept : (o p : ℕ) (past : List Judged) (d : Judged) → is_late p past d ≡ false → is_late p (filter (judged_stays o) past) d ≡ false
unfolding is_late units_ahead sequence_before
late-kept o p past d h = go (is_output p d) h
  where
    fewer : (b : Bool) → length (distinct (map (λ (e : Judged). au e.fact) (filter (is_ahead p d) (cond b [] (sequence (filter (judged_stays o) past)))))) ≤ length (distinct (map (λ (e : Judged). au e.fact) (filter (is_ahead p d) (cond b [] (sequence past)))))
    fewer true = omega arith
    fewer false =
        subst (λ (es : List Judged). length (distinct (map (λ (e : Judged). au e.fact) es)) ≤ length (distinct (map (λ (e : Judged). au e.fact) (filter (is_ahead p d) (sequence past)))))
        (sym (ap (filter (is_ahead p d)) (sequence-kept o past) ∙ filter_swap (is_ahead p d) (judged_stays o) (sequence past)))
        (fewer_distinct (map (λ (e : Judged). au e.fact) (filter (judged_stays o) (filter (is_ahead p d) (sequence past)))) (map (λ (e : Judged). au e.fact) (filter (is_ahead p d) (sequence past)))
        (kept_among (λ (e : Judged). au e.fact) (judged_stays o) (filter (is_ahead p d) (sequence past))))

    go : (b : Bool) → (b && nat_lt (reorder p d) (length (distinct (map (λ (e : Judged). au e.fact) (filter (is_ahead p d) (cond d.seq [] (sequence past))))))) ≡ false →
        (b && nat_lt (reorder p d) (length (distinct (map (λ (e : Judged). au e.fact) (filter (is_ahead p d) (cond d.seq [] (sequence (filter (judged_stays o) past)))))))) ≡ false
    go false h = refl
    go true h =
        let whole : length (distinct (map (λ (e : Judged). au e.fact) (filter (is_ahead p d) (cond d.seq [] (sequence past))))) ≤ reorder p d = ltb-false (reorder p d) (length (distinct (map (λ (e : Judged). au e.fact) (filter (is_ahead p d) (cond d.seq [] (sequence past)))))) h in
        let part : length (distinct (map (λ (e : Judged). au e.fact) (filter (is_ahead p d) (cond d.seq [] (sequence (filter (judged_stays o) past)))))) ≤ length (distinct (map (λ (e : Judged). au e.fact) (filter (is_ahead p d) (cond d.seq [] (sequence past))))) = fewer d.seq in
        le-ltb (reorder p d) (length (distinct (map (λ (e : Judged). au e.fact) (filter (is_ahead p d) (cond d.seq [] (sequence (filter (judged_stays o) past))))))) (omega (arith, whole, part))

none_map : (rule : ℕ → Rule) (f g : ℕ → Bool) → ((n : ℕ) → f n ≡ false → g n ≡ false) → (ns : List ℕ) → AllNone (map (λ n. case (rule n) (f n)) ns) → AllNone (map (λ n. case (rule n) (g n)) ns)
none_map rule f g less [] h = tt
none_map rule f g less (n ∷ ns) h = (less n h.0, none_map rule f g less ns h.1)

output-kept : (o : ℕ) (past : List Judged) (d : Judged) → find (λ (c : Case). c.holds) (output_cases past d) ≡ None → find (λ (c : Case). c.holds) (output_cases (filter (judged_stays o) past) d) ≡ None
unfolding output_cases
output-kept o past d h =
    none_from (map (λ n. case (Rule.Reorder n) (is_late n (filter (judged_stays o) past) d)) (range_with_len 0 (length (sets_at d.seq_vps))))
    (none_map Rule.Reorder (λ n. is_late n past d) (λ n. is_late n (filter (judged_stays o) past) d) (λ n. late-kept o n past d) (range_with_len 0 (length (sets_at d.seq_vps)))
    (all_none (map (λ n. case (Rule.Reorder n) (is_late n past d)) (range_with_len 0 (length (sets_at d.seq_vps)))) h))

-- ---- All rules of a kept unit

kept_facts : (o : ℕ) (us : List (List ℕ)) → map (λ (d : Judged). d.fact) (filter (judged_stays o) (hist us)) ≡ filter (fact_stays o) (all_facts us)
kept_facts o us = sym (filter-map (λ (d : Judged). d.fact) (fact_stays o) (hist us)) ∙ ap (filter (fact_stays o)) (history_facts us)

kept_placed : (o : ℕ) (us : List (List ℕ)) → map (λ (f : Fact). f.placed) (filter (fact_stays o) (all_facts us)) ≡ filter (of_item (stays o)) (all_placed (items us))
kept_placed o us = sym (filter-map (λ (f : Fact). f.placed) (of_item (stays o)) (all_facts us)) ∙ ap (filter (of_item (stays o))) (facts_placed us)

slices-kept : (o : ℕ) (us : List (List ℕ)) (u : List ℕ) → AllFine us → IsFine us u → stays o (this us u).item ≡ true →
    AllNone (slice_cases (all_facts us) (this_fact us u)) → AllNone (slice_cases (filter (fact_stays o) (all_facts us)) (this_fact us u))
unfolding slice_cases fact
slices-kept o us u fine here kept h = (
  h.0,
  (
    h.1.0,
    (
      h.1.1.0,
      (
        h.1.1.1.0,
        (
          ap (λ ps. no_base ps (this us u)) (kept_placed o us) ∙ no_base-kept o us (this us u) fine ∙ here.base,
          (
            ap (λ ps. layer_order ps (this us u)) (kept_placed o us) ∙ layer_order-kept o us (this us u) (ap (λ ps. layer_order ps (this us u)) (sym (facts_placed us)) ∙ h.1.1.1.1.1.0),
            (
              ap (λ ps. orphan_slice ps (this us u)) (kept_placed o us) ∙ orphan-kept o us u kept here.own,
              (
                slice_differs-kept o us u here kept ∙ h.1.1.1.1.1.1.1.0,
                (
                  address_order-kept o us u here kept ∙ h.1.1.1.1.1.1.1.1.0,
                  (
                    ap (λ ps. tid_differs ps (this us u)) (kept_placed o us) ∙ tid_differs-kept o us (this us u) fine ∙ ap (λ ps. tid_differs ps (this us u)) (sym (facts_placed us)) ∙ h.1.1.1.1.1.1.1.1.1.0,
                    tt,
                  ),
                ),
              ),
            ),
          ),
        ),
      ),
    ),
  ),
)

mid-kept : (o : ℕ) (us : List (List ℕ)) (p : Fact) (l : Look) → vps_mid_cvs (map (λ (f : Fact). f.placed) (filter (fact_stays o) (all_facts us))) l p ≡ vps_mid_cvs (all_placed (items us)) l p
unfolding vps_mid_cvs
mid-kept o us p l =
    ap (λ b. is_base p && not (is_sequence_start l p) && b) (ap (λ ps. has_changed_vps ps p.placed) (kept_placed o us) ∙ changed-kept o us p.placed)

find_both : (xs ys : List Case) → find (λ (c : Case). c.holds) xs ≡ None → find (λ (c : Case). c.holds) ys ≡ None → find (λ (c : Case). c.holds) (xs ++ ys) ≡ None
find_both xs ys h k = find-append (λ (c : Case). c.holds) xs ys ∙ ap (λ x. option_or x (find (λ (c : Case). c.holds) ys)) h ∙ k

breaks_none-from : (past : List Judged) (d : Judged) → BreaksNoneOf (map (λ (e : Judged). e.fact) past) (look (asked past d.fact) d.fact) past d → BreaksNone past d
unfolding cases
breaks_none-from past d h =
    let earlier : List Fact = map (λ (e : Judged). e.fact) past in
    let seen : Look = look (asked past d.fact) d.fact in
    find_both ((((item_cases d.fact.placed.item ++ set_cases d.fact) ++ slice_cases earlier d.fact) ++ picture_cases seen d.fact) ++ output_cases past d)
    (case Rule.VpsMidCvs (vps_mid_cvs (map (λ (f : Fact). f.placed) earlier) seen d.fact) ∷ [])
    (find_both (((item_cases d.fact.placed.item ++ set_cases d.fact) ++ slice_cases earlier d.fact) ++ picture_cases seen d.fact) (output_cases past d)
    (find_both ((item_cases d.fact.placed.item ++ set_cases d.fact) ++ slice_cases earlier d.fact) (picture_cases seen d.fact)
    (find_both (item_cases d.fact.placed.item ++ set_cases d.fact) (slice_cases earlier d.fact)
    (find_both (item_cases d.fact.placed.item) (set_cases d.fact) h.of_item h.of_set)
    h.of_slice)
    h.of_picture)
    h.of_output)
    (none_from (case Rule.VpsMidCvs (vps_mid_cvs (map (λ (f : Fact). f.placed) earlier) seen d.fact) ∷ []) (h.mid, tt))

unit-kept : (o : ℕ) (us : List (List ℕ)) (u : List ℕ) → AllFine us → IsFine us u → stays o (this us u).item ≡ true →
    BreaksNone (hist us) (this_judged us u) → BreaksNone (filter (judged_stays o) (hist us)) (this_judged us u)
unfolding judged judgement fact
unit-kept o us u fine here kept h =
    breaks_none-from (filter (judged_stays o) (hist us)) (this_judged us u)
    (subst (λ earlier. BreaksNoneOf earlier (look (asked (filter (judged_stays o) (hist us)) (this_fact us u)) (this_fact us u)) (filter (judged_stays o) (hist us)) (this_judged us u)) (sym (kept_facts o us))
    (subst (λ seen. BreaksNoneOf (filter (fact_stays o) (all_facts us)) seen (filter (judged_stays o) (hist us)) (this_judged us u)) (sym (asked-kept o us u fine here kept))
    record {
      of_item = parts.of_item;
      of_set = parts.of_set;
      of_slice = none_from (slice_cases (filter (fact_stays o) (all_facts us)) (this_fact us u)) (slices-kept o us u fine here kept
          (all_none (slice_cases (all_facts us) (this_fact us u)) (ap (λ earlier. find (λ (c : Case). c.holds) (slice_cases earlier (this_fact us u))) (sym (history_facts us)) ∙ parts.of_slice)));
      of_picture = parts.of_picture;
      of_output = output-kept o (hist us) (this_judged us u) parts.of_output;
      mid = mid-kept o us (this_fact us u) (look (asked (hist us) (this_fact us u)) (this_fact us u)) ∙ here.mid;
    }))
  where
    parts : BreaksNoneOf (map (λ (e : Judged). e.fact) (hist us)) (look (asked (hist us) (this_fact us u)) (this_fact us u)) (hist us) (this_judged us u)
    parts = breaks_none-of (hist us) (this_judged us u) h

-- ---- The extract

all-kept : (o : ℕ) (us : List (List ℕ)) → AllFine us → breaks_none (hist us) ≡ true → breaks_none (filter (judged_stays o) (hist us)) ≡ true
unfolding items run placed all_placed facts history
all-kept o [] fine h = h
all-kept o (u ∷ us) fine h = go (judged_stays o (this_judged us u)) refl (breaks_none-at (this_judged us u) (hist us) h) (all-kept o us fine.1)
  where
    same : judged_stays o (this_judged us u) ≡ stays o (this us u).item
    same = unfold judged judgement fact in refl

    go : (b : Bool) → judged_stays o (this_judged us u) ≡ b → BreaksNone (hist us) (this_judged us u) × (breaks_none (hist us) ≡ true) → (breaks_none (hist us) ≡ true → breaks_none (filter (judged_stays o) (hist us)) ≡ true) →
        breaks_none (cond b (this_judged us u ∷ filter (judged_stays o) (hist us)) (filter (judged_stays o) (hist us))) ≡ true
    go false e whole rest = rest whole.1
    go true e whole rest = breaks_none-more (this_judged us u) (filter (judged_stays o) (hist us)) (unit-kept o us u fine.1 fine.0 (sym same ∙ e) whole.0) (rest whole.1)

picture-kept : (o : ℕ) (all : List Judged) → no_picture (filter (judged_stays o) all) ≡ no_picture all
unfolding no_picture
picture-kept o all =
    ap not (list_any-filter (λ (d : Judged). of_layer 0 d && d.decoded) (judged_stays o) all
    (each (λ d. (of_layer 0 d && d.decoded) ≡ true → judged_stays o d ≡ true) (λ d h. base_stays o d.fact.placed.item (and_parts (of_layer 0 d) d.decoded h).0) all))

pub extract-accepted : (us : List (List ℕ)) (o : ℕ) → is_accepted us ≡ true → is_accepted (extract us o) ≡ true
unfolding is_accepted
extract-accepted us o h =
    let parts : (breaks_none (history_of us) ≡ true) × (not (no_picture (history_of us)) ≡ true) = and_parts (breaks_none (history_of us)) (not (no_picture (history_of us))) h in
    let same : history_of (extract us o) ≡ filter (judged_stays o) (hist (reverse us)) = history-extract us o (accepted-again us h) ∙ ap (filter (judged_stays o)) (hist-of us) in
    and_from (breaks_none (history_of (extract us o))) (not (no_picture (history_of (extract us o))))
    (ap breaks_none same ∙ all-kept o (reverse us) (accepted-fine us (accepted-again us h)) (ap breaks_none (sym (hist-of us)) ∙ parts.0))
    (ap (λ all. not (no_picture all)) same ∙ ap not (picture-kept o (hist (reverse us))) ∙ ap (λ all. not (no_picture all)) (sym (hist-of us)) ∙ parts.1)
  where
    accepted-again : (us : List (List ℕ)) → (breaks_none (history_of us) && not (no_picture (history_of us))) ≡ true → is_accepted us ≡ true
    accepted-again us h = unfold is_accepted in h
