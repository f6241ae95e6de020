-- One unit more: the items, the placed units and the facts of a stream, the latest access unit, and the video parameter set in force.
use Rattle.std.proofs.Common.{◌≡◌, ℕ, ◌+◌, ◌≤◌, false, List, [], ◌∷◌, ◌++◌, reverse, map, None, refl, ap, sym, ◌∙◌, if◌then◌else◌, arith}
use Rattle.std.proofs.lemmas.List.{reverse-append}
use Rattle.mv_history.specs.History.{run}
use Rattle.mv_pictures.specs.AccessUnits.{all_placed, begins, number, placed}
use Rattle.mv_pictures.specs.Extract.{last_vps}
use Rattle.mv_pictures.specs.Facts.{Fact, fact, facts}
use Rattle.mv_pictures.specs.History.{facts_of, history_of}
use Rattle.mv_pictures.specs.Items.{is_vps, item, items, vps_behind}
use Rattle.mv_commuting.specs.OneMore.{fact_behind}
use Rattle.mv_commuting.proofs.Facts.{facts_placed}
use Rattle.mv_commuting.proofs.Histories.{history_facts}
use Rattle.mv_commuting.proofs.OneVps.{au_begun, item_at}
use Rattle.mv_commuting.proofs.Turns.{behind_item}
use Rattle.mv_tried.specs.Finer.{facts_in, placed_in}
use Rattle.mv_au.specs.Tracker.{latest_au}
use Rattle.mv_walk_laws.specs.Streams.{current, item_behind, placed_behind, placed_units}

pub items-more : (us : List (List ℕ)) (u : List ℕ) → items (reverse (us ++ u ∷ [])) ≡ item_behind us u ∷ items (reverse us)
unfolding items run
items-more us u = ap items (reverse-append us (u ∷ []))

pub placed-more : (us : List (List ℕ)) (u : List ℕ) → placed_units (us ++ u ∷ []) ≡ placed_behind us u ∷ placed_units us
unfolding all_placed run
placed-more us u = ap all_placed (items-more us u)

pub facts-more : (us : List (List ℕ)) (u : List ℕ) → facts_of (us ++ u ∷ []) ≡ fact_behind us u ∷ facts_of us
unfolding facts_of facts run
facts-more us u = ap facts (placed-more us u)

-- ---- A history tells the facts and the placed units

pub facts-told : (us : List (List ℕ)) → facts_in (history_of us) ≡ facts_of us
unfolding history_of facts_of
facts-told us = history_facts (reverse us)

pub placed-told : (us : List (List ℕ)) → placed_in (history_of us) ≡ placed_units us
unfolding facts_of
placed-told us = ap (map (λ (f : Fact). f.placed)) (facts-told us) ∙ facts_placed (reverse us)

pub fact-told : (us : List (List ℕ)) (u : List ℕ) → fact_behind us u ≡ fact (facts_in (history_of us)) (placed_behind us u)
fact-told us u = ap (λ fs. fact fs (placed_behind us u)) (sym (facts-told us))

pub placed-of : (us : List (List ℕ)) (u : List ℕ) → (fact_behind us u).placed ≡ placed_behind us u
unfolding fact
placed-of us u = refl

pub item-of : (us : List (List ℕ)) (u : List ℕ) → (fact_behind us u).placed.item ≡ item_behind us u
unfolding fact placed
item-of us u = refl

pub au-of : (us : List (List ℕ)) (u : List ℕ) → (fact_behind us u).placed.au ≡ number (placed_units us) (item_behind us u)
unfolding fact placed
au-of us u = refl

-- ---- The latest access unit

pub current-first : current [] ≡ 0
unfolding latest_au all_placed items run
current-first = refl

pub current-more : (us : List (List ℕ)) (u : List ℕ) → current (us ++ u ∷ []) ≡ number (placed_units us) (item_behind us u)
unfolding latest_au placed
current-more us u = ap latest_au (placed-more us u) ∙ sym (au_begun (placed_units us) (item_behind us u))

pub number-is : (us : List (List ℕ)) (u : List ℕ) → number (placed_units us) (item_behind us u) ≡ current us + (if begins (placed_units us) (item_behind us u) then 1 else 0)
unfolding number latest_au
number-is us u = refl

pub current-rises : (us : List (List ℕ)) (u : List ℕ) → current us ≤ number (placed_units us) (item_behind us u)
current-rises us u = let is = number-is us u in omega (arith, is)

-- ---- The video parameter set in force

pub vps-first : last_vps [] ≡ None
unfolding items run vps_behind
vps-first = refl

pub vps-before : (us : List (List ℕ)) (u : List ℕ) → (item_behind us u).before ≡ last_vps us
unfolding item
vps-before us u = refl

pub vps-more : (us : List (List ℕ)) (u : List ℕ) → last_vps (us ++ u ∷ []) ≡ (item_behind us u).at
vps-more us u = ap vps_behind (items-more us u) ∙ behind_item (reverse us) u

pub vps-other : (us : List (List ℕ)) (u : List ℕ) → is_vps (item_behind us u) ≡ false → (item_behind us u).at ≡ last_vps us
vps-other us u plain = item_at (reverse us) u plain

pub vps-same : (us : List (List ℕ)) (u : List ℕ) → is_vps (item_behind us u) ≡ false → last_vps (us ++ u ∷ []) ≡ last_vps us
vps-same us u plain = vps-more us u ∙ vps-other us u plain

-- a repeated one
pub vps-repeated : (us : List (List ℕ)) (u : List ℕ) → (item_behind us u).at ≡ (item_behind us u).before → last_vps (us ++ u ∷ []) ≡ last_vps us
vps-repeated us u same = vps-more us u ∙ same ∙ vps-before us u
