-- Items of an extract: layer 0 is kept for each output layer set, so the video parameter sets in force are the same.
use Rattle.std.proofs.Common.{◌≡◌, ℕ, true, ◌||◌, List, [], ◌∷◌, filter, map, Option, None, Some, refl, ap, sym, ◌∙◌, if◌then◌else◌}
use Rattle.std.specs.Prelude.{nat_eq, All, option_and_then, option_map, slice_index_or}
use Rattle.std.proofs.lemmas.Bool.{and_parts}
use Rattle.mv_units.specs.Head.{head}
use Rattle.mv_layers.specs.Derived.{OlsValue, is_kept}
use Rattle.mv_layers.specs.OutputLayers.{is_among}
use Rattle.mv_syntax.specs.Words.{◌otherwise◌}
use Rattle.mv_history.specs.History.{IsAlone, Tells, Throughout, run}
use Rattle.mv_history.proofs.Kept.{find-filter}
use Rattle.mv_history.proofs.Runs.{run_keep, run_keep_twice, run_source}
use Rattle.mv_pictures.specs.Carried.{carried_vps}
use Rattle.mv_pictures.specs.Kinds.{is_vps_kind}
use Rattle.mv_pictures.specs.Layers.{InForce, keeps, set_at}
use Rattle.mv_pictures.specs.Items.{Item, is_vps, is_vps_head, item, items, opening_of, stays, vps_behind}

-- what holds of each element holds of each of a list
pub each : {A : Type 0} (P : A → Type 0) → ((x : A) → P x) → (xs : List A) → All P xs
each P h xs = λ k d l. h (slice_index_or xs k d)

pub throughout : {A : Type 0} (P : List A → A → Type 0) → ((past : List A) (x : A) → P past x) → (xs : List A) → Throughout P xs
throughout P h [] = tt
throughout P h (x ∷ xs) = (h xs x, throughout P h xs)

-- layer 0 is kept for each output layer set
pub keeps_base : (o : ℕ) (at : InForce) (layer : ℕ) → nat_eq layer 0 ≡ true → keeps o at layer ≡ true
unfolding keeps
keeps_base o None layer h = refl
keeps_base o (Some vps) layer h = go (set_at (Some vps) o)
  where
    go : (set : Option OlsValue) → option_map (λ set. is_kept set layer) set otherwise nat_eq layer 0 ≡ true
    go None = h
    go (Some set) = ap (λ b. b || is_among set.necessary layer) h

pub base_stays : (o : ℕ) (i : Item) → nat_eq i.head.layer 0 ≡ true → stays o i ≡ true
unfolding stays
base_stays o i h = keeps_base o i.at i.head.layer h

pub vps_stays : (o : ℕ) (i : Item) → is_vps i ≡ true → stays o i ≡ true
vps_stays o i h = base_stays o i (and_parts (is_vps_kind i.head.kind) (nat_eq i.head.layer 0) h).1

-- the same video parameter set is in force behind what is kept
pub vps_behind-kept : (o : ℕ) (past : List Item) → vps_behind (filter (stays o) past) ≡ vps_behind past
unfolding vps_behind
vps_behind-kept o past =
    ap (option_and_then (λ (i : Item). i.at))
    (find-filter is_vps (stays o) past (each (λ i. is_vps i ≡ true → stays o i ≡ true) (vps_stays o) past))

item_of : InForce → List ℕ → Item
item_of before u = record {
  bytes = u;
  head = head u;
  opening = opening_of (head u) u;
  before = before;
  at = if is_vps_head (head u) then Some (carried_vps (head u) u) else before;
}

item-by : (past : List Item) (u : List ℕ) → item past u ≡ item_of (vps_behind past) u
unfolding item item_of
item-by past u = refl

item_alone : (o : ℕ) (past : List (List ℕ)) (u : List ℕ) → IsAlone item (stays o) past u
item_alone o past u kept =
    item-by (filter (stays o) (run item past)) u ∙ ap (λ before. item_of before u) (vps_behind-kept o (run item past)) ∙ sym (item-by (run item past) u)

item_tells : Tells item (λ (i : Item). i.bytes)
unfolding item
item_tells past u = refl

pub items-bytes : (us : List (List ℕ)) → map (λ (i : Item). i.bytes) (items us) ≡ us
unfolding items
items-bytes us = run_source item (λ (i : Item). i.bytes) item_tells us

-- the items of an extract are those that are kept
pub items-keep : (o : ℕ) (us : List (List ℕ)) → items (map (λ (i : Item). i.bytes) (filter (stays o) (items us))) ≡ filter (stays o) (items us)
unfolding items
items-keep o us = run_keep item (λ (i : Item). i.bytes) (stays o) item_tells us (throughout (IsAlone item (stays o)) (item_alone o) us)

-- extracting twice is extracting once
pub items-twice : (o : ℕ) (us : List (List ℕ)) →
    map (λ (i : Item). i.bytes) (filter (stays o) (items (map (λ (i : Item). i.bytes) (filter (stays o) (items us))))) ≡ map (λ (i : Item). i.bytes) (filter (stays o) (items us))
unfolding items
items-twice o us = run_keep_twice item (λ (i : Item). i.bytes) (stays o) item_tells us (throughout (IsAlone item (stays o)) (item_alone o) us)
