-- A segment that isn't the first one of its picture stands in the access unit of the latest picture, which is of its layer.
use Rattle.std.proofs.Common.{◌≡◌, ℕ, Bool, true, false, cond, not, ◌&&◌, List, [], ◌∷◌, Option, None, Some, refl, ap, sym, ◌∙◌}
use Rattle.std.specs.Prelude.{nat_eq, option_map}
use Rattle.std.specs.List.{find}
use Rattle.std.proofs.lemmas.Bool.{and_parts, eqb-true, not-false}
use Rattle.mv_syntax.specs.Words.{◌otherwise◌}
use Rattle.mv_rules.specs.declared.rule.Rule.{Rule}
use Rattle.mv_pictures.specs.AccessUnits.{Placed, in_au, is_own_picture, layer as placed_layer, layer_order, number, orphan_slice, placed}
use Rattle.mv_pictures.specs.History.{history_of}
use Rattle.mv_pictures.specs.Items.{is_picture as item_picture, is_slice as item_slice}
use Rattle.mv_pictures.specs.Judged.{Judged, au, is_picture, layer}
use Rattle.mv_pictures.specs.Rules.{Case}
use Rattle.mv_commuting.proofs.Histories.{AllNone, all_none}
use Rattle.mv_tried.specs.Finer.{placed_in}
use Rattle.mv_au.specs.Tracker.{broken, cases as tracker_cases}
use Rattle.mv_walk_laws.specs.Parts.{HasPicture}
use Rattle.mv_walk_laws.specs.Streams.{item_behind, placed_behind, placed_units}
use Rattle.mv_walk_laws.proofs.OneMore.{placed-told}

unbroken : (cs : List Case) → option_map (λ (c : Case). c.rule) (find (λ (c : Case). c.holds) cs) ≡ None → AllNone cs
unbroken cs h = all_none cs (none (find (λ (c : Case). c.holds) cs) h)
  where
    none : (x : Option Case) → option_map (λ (c : Case). c.rule) x ≡ None → x ≡ None
    none None h = refl
    none (Some c) h = absurd (let wrong : Path (Option Rule) (Some c.rule) None = h in cc)

no-orphan : (ps : List Placed) (q : Placed) → broken ps q ≡ None → orphan_slice ps q ≡ false
unfolding broken tracker_cases
no-orphan ps q h = let each : AllNone (tracker_cases ps q) = unbroken (tracker_cases ps q) h in each.1.1.0

pub in-order : (ps : List Placed) (q : Placed) → broken ps q ≡ None → layer_order ps q ≡ false
unfolding broken tracker_cases
in-order ps q h = let each : AllNone (tracker_cases ps q) = unbroken (tracker_cases ps q) h in each.1.0

own-found : (ps : List Placed) (q : Placed) → item_slice q.item ≡ true → item_picture q.item ≡ false → orphan_slice ps q ≡ false →
    (option_map (is_own_picture q) (find (λ (p : Placed). item_picture p.item) ps) otherwise false) ≡ true
unfolding orphan_slice
own-found ps q slice none h =
    not-false (option_map (is_own_picture q) (find (λ (p : Placed). item_picture p.item) ps) otherwise false)
    (sym (ap (λ a. a && not (item_picture q.item) && not (option_map (is_own_picture q) (find (λ (p : Placed). item_picture p.item) ps) otherwise false)) slice
    ∙ ap (λ b. true && not b && not (option_map (is_own_picture q) (find (λ (p : Placed). item_picture p.item) ps) otherwise false)) none) ∙ h)

found-told : (past : List Judged) → find (λ (p : Placed). item_picture p.item) (placed_in past) ≡ option_map (λ (d : Judged). d.fact.placed) (find (λ (d : Judged). is_picture d.fact) past)
found-told [] = refl
found-told (d ∷ past) = go (is_picture d.fact) (found-told past)
  where
    go : (b : Bool) → find (λ (p : Placed). item_picture p.item) (placed_in past) ≡ option_map (λ (d : Judged). d.fact.placed) (find (λ (d : Judged). is_picture d.fact) past) →
        cond b (Some d.fact.placed) (find (λ (p : Placed). item_picture p.item) (placed_in past)) ≡ option_map (λ (d : Judged). d.fact.placed) (cond b (Some d) (find (λ (d : Judged). is_picture d.fact) past))
    go true rest = refl
    go false rest = rest

own-is : (past : List Judged) (q : Placed) → (option_map (is_own_picture q) (find (λ (p : Placed). item_picture p.item) (placed_in past)) otherwise false) ≡ true → HasPicture past (placed_layer q) q.au
unfolding is_own_picture
own-is past q h = go (find (λ (d : Judged). is_picture d.fact) past) refl (sym (ap (λ o. option_map (λ (p : Placed). nat_eq (placed_layer p) (placed_layer q) && in_au q.au p) o otherwise false) (found-told past)) ∙ h)
  where
    go : (o : Option Judged) → find (λ (d : Judged). is_picture d.fact) past ≡ o →
        (option_map (λ (p : Placed). nat_eq (placed_layer p) (placed_layer q) && in_au q.au p) (option_map (λ (d : Judged). d.fact.placed) o) otherwise false) ≡ true → HasPicture past (placed_layer q) q.au
    go None is h = absurd (let wrong : false ≡ true = h in cc)
    go (Some d) is h =
        let parts = and_parts (nat_eq (layer d.fact) (placed_layer q)) (nat_eq (au d.fact) q.au) h in
        record { it = d; latest = is; layer_is = eqb-true (layer d.fact) (placed_layer q) parts.0; here = eqb-true (au d.fact) q.au parts.1 }

pub later-picture : (us : List (List ℕ)) (u : List ℕ) → item_slice (item_behind us u) ≡ true → item_picture (item_behind us u) ≡ false → broken (placed_units us) (placed_behind us u) ≡ None →
    HasPicture (history_of us) (item_behind us u).head.layer (number (placed_units us) (item_behind us u))
unfolding placed
later-picture us u slice none unbroken =
    own-is (history_of us) (placed_behind us u)
    (ap (λ ps. option_map (is_own_picture (placed_behind us u)) (find (λ (p : Placed). item_picture p.item) ps) otherwise false) (placed-told us)
    ∙ own-found (placed_units us) (placed_behind us u) slice none (no-orphan (placed_units us) (placed_behind us u) unbroken))
