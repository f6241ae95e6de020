-- Where access units begin: a video parameter set has no slice segment before it in its access unit, and a picture of a layer above 0
-- stands behind its base picture.
use Rattle.std.proofs.Common.{◌≡◌, ℕ, ◌+◌, ◌<◌, ◌≤◌, Bool, true, false, cond, ◌&&◌, List, [], ◌∷◌, reverse, Option, None, Some, refl, ap, sym, subst, ◌∙◌, arith, if◌then◌else◌}
use Rattle.std.specs.Prelude.{All, nat_eq, option_map}
use Rattle.std.specs.List.{find}
use Rattle.std.proofs.lemmas.Bool.{and_parts, ne_eqb}
use Rattle.std.proofs.lemmas.List.Elements.{All-weaker}
use Rattle.mv_syntax.specs.Words.{◌otherwise◌}
use Rattle.mv_history.specs.History.{Throughout, run}
use Rattle.mv_history.proofs.Kept.{All-unmap}
use Rattle.mv_pictures.specs.AccessUnits.{Placed, all_placed, begins, has_slices, in_au as placed_in_au, number, placed}
use Rattle.mv_pictures.specs.Facts.{Fact, fact}
use Rattle.mv_pictures.specs.History.{facts_of, history_of}
use Rattle.mv_pictures.specs.Items.{is_first_segment, is_picture as item_picture, is_slice as item_slice, is_vps, items}
use Rattle.mv_pictures.specs.Judged.{Judged, au, in_au, is_picture, is_slice, of_layer}
use Rattle.mv_pictures.specs.Look.{look}
use Rattle.mv_commuting.specs.OneMore.{fact_behind}
use Rattle.mv_commuting.proofs.Closures.{find_all}
use Rattle.mv_commuting.proofs.OneVps.{no_slice, vps_triggers}
use Rattle.mv_commuting.proofs.Places.{begun, none_yet, numbers_within}
use Rattle.mv_commuting.proofs.Shown.{placed_of_hist}
use Rattle.mv_commuting.proofs.Steady.{item_orderly}
use Rattle.mv_tried.specs.Finer.{placed_in}
use Rattle.mv_au.specs.Tracker.{broken, latest_base}
use Rattle.mv_au.proofs.TrackerLaws.{based-at}
use Rattle.mv_walk_laws.specs.Streams.{item_behind, placed_behind, placed_units}
use Rattle.mv_walk_laws.proofs.OneMore.{placed-told}
use Rattle.mv_walk_laws.proofs.Steps.{all-earlier}

-- ---- Video parameter sets

-- a unit isn't a slice segment of access unit n
abbrev IsNoSlice : ℕ → Placed → Type 0
IsNoSlice n q = item_slice q.item ≡ true → q.au ≡ n → ⊥

pub vps-alone : (us : List (List ℕ)) (u : List ℕ) → is_vps (item_behind us u) ≡ true →
    All (λ (q : Placed). item_slice q.item ≡ true → q.au ≡ number (placed_units us) (item_behind us u) → ⊥) (placed_units us)
unfolding all_placed
vps-alone us u is = go (has_slices (placed_units us)) refl
  where
    n : ℕ
    n = number (placed_units us) (item_behind us u)

    exact : (b : Bool) → has_slices (placed_units us) ≡ b → n ≡ begun (placed_units us) + (if b then 1 else 0)
    exact b e = unfold number begins in
        ap (λ t. begun (placed_units us) + (if t && has_slices (placed_units us) then 1 else 0)) (vps_triggers (item_behind us u) (item_orderly (reverse us) u) is)
        ∙ ap (λ b. begun (placed_units us) + (if b then 1 else 0)) e

    go : (b : Bool) → has_slices (placed_units us) ≡ b → All (IsNoSlice n) (placed_units us)
    go true e =
        let one : n ≡ begun (placed_units us) + 1 = exact true e in
        All-weaker (λ (q : Placed). q.au ≤ begun (placed_units us)) (IsNoSlice n) (λ q le slice here. absurd (omega (arith, one, le, here))) (placed_units us) (numbers_within (items (reverse us)))
    go false e =
        let same : n ≡ begun (placed_units us) + 0 = exact false e in
        All-weaker (IsNoSlice (begun (placed_units us))) (IsNoSlice n) (λ q none slice here. none slice (omega (arith, same, here))) (placed_units us)
        (no_slice (begun (placed_units us)) (placed_units us) (none_yet (items (reverse us)) e))

-- the same of a history
pub vps-closes : (us : List (List ℕ)) (u : List ℕ) → is_vps (item_behind us u) ≡ true →
    All (λ (d : Judged). is_slice d.fact ≡ true → au d.fact ≡ number (placed_units us) (item_behind us u) → ⊥) (history_of us)
unfolding history_of facts_of
vps-closes us u is =
    All-unmap (IsNoSlice (number (placed_units us) (item_behind us u))) (λ (d : Judged). d.fact.placed) (history_of us)
    (subst (All (IsNoSlice (number (placed_units us) (item_behind us u)))) (sym (placed_of_hist (reverse us))) (vps-alone us u is))

-- then no picture is of it
no-picture : (n : ℕ) (past : List Judged) → All (λ (d : Judged). is_slice d.fact ≡ true → au d.fact ≡ n → ⊥) past →
    (option_map (in_au n) (find (λ (d : Judged). is_picture d.fact) past) otherwise false) ≡ false
no-picture n past h = go (find (λ (d : Judged). is_picture d.fact) past) refl
  where
    go : (o : Option Judged) → find (λ (d : Judged). is_picture d.fact) past ≡ o → (option_map (in_au n) o otherwise false) ≡ false
    go None e = refl
    go (Some d) e =
        let found = find_all (λ (d : Judged). is_slice d.fact ≡ true → au d.fact ≡ n → ⊥) (λ (d : Judged). is_picture d.fact) past d h e in
        ne_eqb (au d.fact) n (found.0 (and_parts (is_slice d.fact) (is_first_segment d.fact.placed.item.opening) found.1).0)

pub vps-behind : (us : List (List ℕ)) (u : List ℕ) → is_vps (item_behind us u) ≡ true →
    (option_map (in_au (number (placed_units us) (item_behind us u))) (find (λ (d : Judged). is_picture d.fact) (history_of us)) otherwise false) ≡ false
vps-behind us u is = no-picture (number (placed_units us) (item_behind us u)) (history_of us) (vps-closes us u is)

-- nor is one where a unit begins its access unit
pub begins-behind : (us : List (List ℕ)) (u : List ℕ) → begins (placed_units us) (item_behind us u) ≡ true →
    (option_map (in_au (number (placed_units us) (item_behind us u))) (find (λ (d : Judged). is_picture d.fact) (history_of us)) otherwise false) ≡ false
begins-behind us u it =
    no-picture n (history_of us)
    (All-weaker (λ (d : Judged). au d.fact < n) (λ (d : Judged). is_slice d.fact ≡ true → au d.fact ≡ n → ⊥) (λ d less slice here. omega (arith, less, here)) (history_of us) (all-earlier us u it))
  where
    n : ℕ
    n = number (placed_units us) (item_behind us u)

-- ---- Base pictures

latest-told : (past : List Judged) → option_map (λ (d : Judged). d.fact.placed) (find (λ (d : Judged). of_layer 0 d && is_picture d.fact) past) ≡ latest_base (placed_in past)
unfolding latest_base
latest-told [] = refl
latest-told (d ∷ past) = go (of_layer 0 d && is_picture d.fact) (latest-told past)
  where
    go : (b : Bool) → option_map (λ (d : Judged). d.fact.placed) (find (λ (d : Judged). of_layer 0 d && is_picture d.fact) past) ≡ find (λ (q : Placed). nat_eq q.item.head.layer 0 && item_picture q.item) (placed_in past) →
        option_map (λ (d : Judged). d.fact.placed) (cond b (Some d) (find (λ (d : Judged). of_layer 0 d && is_picture d.fact) past))
        ≡ cond b (Some d.fact.placed) (find (λ (q : Placed). nat_eq q.item.head.layer 0 && item_picture q.item) (placed_in past))
    go true rest = refl
    go false rest = rest

places : (n : ℕ) (o : Option Judged) → option_map (λ (d : Judged). nat_eq (au d.fact) n) o ≡ option_map (placed_in_au n) (option_map (λ (d : Judged). d.fact.placed) o)
places n None = refl
places n (Some d) = refl

-- where no unit breaks a rule on access units, the latest base picture is of the access unit of a picture of a layer above 0
pub base-there : (us : List (List ℕ)) (u : List ℕ) → Throughout (λ past q. broken past q ≡ None) (placed_units us) → broken (placed_units us) (placed_behind us u) ≡ None →
    item_picture (item_behind us u) ≡ true → nat_eq (item_behind us u).head.layer 0 ≡ false → (p : Fact) →
    option_map (λ (d : Judged). nat_eq (au d.fact) (number (placed_units us) (item_behind us u))) (look (history_of us) p).base ≡ Some true
unfolding look
base-there us u kept here picture above p =
    places n (find (λ (d : Judged). of_layer 0 d && is_picture d.fact) (history_of us))
    ∙ ap (option_map (placed_in_au n)) (latest-told (history_of us) ∙ ap latest_base (placed-told us))
    ∙ at
  where
    n : ℕ
    n = number (placed_units us) (item_behind us u)

    at : option_map (placed_in_au n) (latest_base (placed_units us)) ≡ Some true
    at = based-at (items (reverse us)) (item_behind us u) (unfold all_placed run in (here, kept)) picture above

pub base-behind : (us : List (List ℕ)) (u : List ℕ) → Throughout (λ past q. broken past q ≡ None) (all_placed (item_behind us u ∷ items (reverse us))) →
    item_picture (item_behind us u) ≡ true → nat_eq (item_behind us u).head.layer 0 ≡ false →
    option_map (λ (d : Judged). nat_eq (au d.fact) (au (fact_behind us u))) (look (history_of us) (fact_behind us u)).base ≡ Some true
unfolding fact placed
base-behind us u kept picture above = base-there us u (parts kept).1 (parts kept).0 picture above (fact_behind us u)
  where
    parts : Throughout (λ past q. broken past q ≡ None) (all_placed (item_behind us u ∷ items (reverse us))) →
        (broken (placed_units us) (placed_behind us u) ≡ None) × Throughout (λ past q. broken past q ≡ None) (placed_units us)
    parts h = unfold all_placed run in h
