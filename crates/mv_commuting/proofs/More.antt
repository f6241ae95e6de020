-- One unit more: what a history with a unit more tells.
use Rattle.std.proofs.Common.{◌≡◌, ℕ, ◌+◌, Bool, true, false, cond, ◌&&◌, ◌||◌, List, [], ◌∷◌, ◌++◌, length, map, Some, refl, ap, sym, ◌∙◌, filter, if◌then◌else◌, arith}
use Rattle.std.specs.Prelude.{nat_le, All, option_map}
use Rattle.std.specs.List.{find, list_all, list_any}
use Rattle.std.proofs.lemmas.Bool.{and_from, eq-eqb, le-leb, or_parts}
use Rattle.std.proofs.lemmas.List.{reverse-append}
use Rattle.std.proofs.lemmas.List.Elements.{All-cons, All-nil}
use Rattle.mv_syntax.specs.Words.{◌otherwise◌}
use Rattle.mv_history.specs.History.{from, run}
use Rattle.mv_history.proofs.Kept.{list_all_agree_at, map_agree_at}
use Rattle.mv_pictures.specs.Items.{is_picture as item_picture, items}
use Rattle.mv_pictures.specs.Layers.{directs}
use Rattle.mv_pictures.specs.SliceFields.{active_layers}
use Rattle.mv_pictures.specs.Facts.{Fact, facts}
use Rattle.mv_pictures.specs.History.{facts_of, history, history_of, judged}
use Rattle.mv_pictures.specs.AccessUnits.{Placed, all_placed, layer as placed_layer, layer_order, pictures_of}
use Rattle.mv_pictures.specs.AccessUnits as units
use Rattle.mv_pictures.specs.Judged.{Judged, begins, is_end, is_picture, layer, of_layer, resets, starts, vps_at}
use Rattle.mv_pictures.specs.Look.{in_sequence, initialised, look, sequence}
use Rattle.mv_commuting.specs.OneMore.{fact_behind, initialised_with, own_with}
use Rattle.mv_commuting.proofs.Items.{each}
use Rattle.mv_commuting.proofs.Steady.{hist}

-- the units of a layer in the sequence
pub in_sequence-more : (d : Judged) (past : List Judged) (n : ℕ) → in_sequence (d ∷ past) n ≡ (if of_layer n d then d ∷ (if begins d then [] else in_sequence past n) else (if begins d then [] else in_sequence past n))
unfolding sequence from
in_sequence-more d past n = go (begins d)
  where
    go : (b : Bool) → filter (of_layer n) (cond b (d ∷ []) (d ∷ from begins past)) ≡ cond (of_layer n d) (d ∷ cond b [] (filter (of_layer n) (from begins past))) (cond b [] (filter (of_layer n) (from begins past)))
    go true = refl
    go false = refl

-- whether a layer is initialised
pub initialised-more : (d : Judged) (past : List Judged) (n : ℕ) → initialised (d ∷ past) n ≡ (if starts n d then true else (if resets n d then false else initialised past n))
unfolding initialised
initialised-more d past n = go (starts n d) (resets n d) refl
  where
    go : (s r : Bool) → starts n d ≡ s →
        option_map (starts n) (cond (s || r) (Some d) (find (λ d. starts n d || resets n d) past)) otherwise false ≡ cond s true (cond r false (option_map (starts n) (find (λ d. starts n d || resets n d) past) otherwise false))
    go true r e = e
    go false true e = e
    go false false e = refl

pub order_none : (p : Placed) (ps : List Placed) → item_picture p.item ≡ true → layer_order ps p ≡ false → All (λ (q : Placed). item_picture q.item ≡ true → placed_layer q ≡ placed_layer p → q.au ≡ p.au → ⊥) ps
unfolding layer_order pictures_of
order_none p ps picture h = go ps (sym (ap (λ b. b && list_any (λ q. nat_le (placed_layer p) (placed_layer q)) (pictures_of p.au ps)) picture) ∙ h)
  where
    go : (qs : List Placed) → list_any (λ q. nat_le (placed_layer p) (placed_layer q)) (filter (λ (q : Placed). item_picture q.item && units.in_au p.au q) qs) ≡ false →
        All (λ (q : Placed). item_picture q.item ≡ true → placed_layer q ≡ placed_layer p → q.au ≡ p.au → ⊥) qs
    go [] h = All-nil (λ (q : Placed). item_picture q.item ≡ true → placed_layer q ≡ placed_layer p → q.au ≡ p.au → ⊥)
    go (q ∷ qs) h = again (item_picture q.item && units.in_au p.au q) refl h (go qs)
      where
        again : (b : Bool) → (item_picture q.item && units.in_au p.au q) ≡ b →
            list_any (λ q. nat_le (placed_layer p) (placed_layer q)) (cond b (q ∷ filter (λ (q : Placed). item_picture q.item && units.in_au p.au q) qs) (filter (λ (q : Placed). item_picture q.item && units.in_au p.au q) qs)) ≡ false →
            (list_any (λ q. nat_le (placed_layer p) (placed_layer q)) (filter (λ (q : Placed). item_picture q.item && units.in_au p.au q) qs) ≡ false →
            All (λ (q : Placed). item_picture q.item ≡ true → placed_layer q ≡ placed_layer p → q.au ≡ p.au → ⊥) qs) →
            All (λ (q : Placed). item_picture q.item ≡ true → placed_layer q ≡ placed_layer p → q.au ≡ p.au → ⊥) (q ∷ qs)
        again true e h rest =
            let parts = or_parts (nat_le (placed_layer p) (placed_layer q)) (list_any (λ q. nat_le (placed_layer p) (placed_layer q)) (filter (λ (q : Placed). item_picture q.item && units.in_au p.au q) qs)) h in
            All-cons (λ (q : Placed). item_picture q.item ≡ true → placed_layer q ≡ placed_layer p → q.au ≡ p.au → ⊥) q qs
            (λ picture same here. let wrong : true ≡ false = sym (le-leb (placed_layer p) (placed_layer q) (omega (arith, same))) ∙ parts.0 in cc)
            (rest parts.1)
        again false e h rest =
            All-cons (λ (q : Placed). item_picture q.item ≡ true → placed_layer q ≡ placed_layer p → q.au ≡ p.au → ⊥) q qs
            (λ picture same here. let wrong : true ≡ false = sym (and_from (item_picture q.item) (units.in_au p.au q) picture (eq-eqb q.au p.au here)) ∙ e in cc)
            (rest h)

-- ---- What is asked of the past

pub history-more : (us : List (List ℕ)) (u : List ℕ) → history_of (us ++ u ∷ []) ≡ judged (history_of us) (fact_behind us u) ∷ history_of us
unfolding history_of facts_of items all_placed facts history run
history-more us u = ap hist (reverse-append us (u ∷ []))

pub border-more : (d : Judged) (past : List Judged) (p : Fact) → (look (d ∷ past) p).border ≡ (if of_layer 0 d && (is_picture d.fact || is_end d.fact) then Some d else (look past p).border)
unfolding look
border-more d past p = refl

pub base-more : (d : Judged) (past : List Judged) (p : Fact) → (look (d ∷ past) p).base ≡ (if of_layer 0 d && is_picture d.fact then Some d else (look past p).base)
unfolding look
base-more d past p = refl

pub root-more : (d : Judged) (past : List Judged) (p : Fact) → (look (d ∷ past) p).root ≡ (if begins d then Some d else (look past p).root)
unfolding look
root-more d past p = refl

pub seqs-more : (d : Judged) (past : List Judged) (p : Fact) → (look (d ∷ past) p).seqs ≡ (if begins d then (look past p).seqs + 1 else (look past p).seqs)
unfolding look
seqs-more d past p = go (begins d)
  where
    go : (b : Bool) → length (cond b (d ∷ filter begins past) (filter begins past)) ≡ cond b (length (filter begins past) + 1) (length (filter begins past))
    go true = omega arith
    go false = refl

pub ready-more : (d : Judged) (past : List Judged) (p : Fact) → (look (d ∷ past) p).ready ≡ list_all (initialised_with d past) (directs (vps_at p) (layer p))
unfolding look
ready-more d past p =
    list_all_agree_at (initialised (d ∷ past)) (initialised_with d past) (directs (vps_at p) (layer p))
    (each (λ n. initialised (d ∷ past) n ≡ initialised_with d past n) (initialised-more d past) (directs (vps_at p) (layer p)))

pub across-more : (d : Judged) (past : List Judged) (p : Fact) → (look (d ∷ past) p).across ≡ map (own_with d past) (active_layers p)
unfolding look
across-more d past p =
    map_agree_at (in_sequence (d ∷ past)) (own_with d past) (active_layers p)
    (each (λ n. in_sequence (d ∷ past) n ≡ own_with d past n) (in_sequence-more d past) (active_layers p))
