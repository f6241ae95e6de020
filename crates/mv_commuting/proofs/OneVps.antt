-- Behind a slice segment a video parameter set begins another access unit: so the slice segments of an access unit have one.
use Rattle.std.proofs.Common.{◌≡◌, ℕ, ◌+◌, ◌≤◌, Bool, true, false, cond, ◌&&◌, ◌||◌, List, [], ◌∷◌, Option, None, Some, refl, ap, sym, ◌∙◌, if◌then◌else◌, arith}
use Rattle.std.specs.Prelude.{nat_eq, All, option_map}
use Rattle.std.proofs.lemmas.Bool.{eqb-true, eq-eqb, and_parts, and_from, or_left}
use Rattle.std.proofs.lemmas.List.Elements.{All-nil, All-cons, All-head, All-weaker}
use Rattle.mv_units.specs.Head.{head}
use Rattle.mv_syntax.specs.Words.{◌otherwise◌}
use Rattle.mv_layers.specs.LayerInfos.{is_known as has_layer}
use Rattle.mv_vps.specs.Vps.{WholeVps}
use Rattle.mv_history.specs.History.{run}
use Rattle.mv_pictures.specs.Carried.{carried_vps, value_of}
use Rattle.mv_pictures.specs.Kinds.{is_vps_kind, is_slice_kind, is_opening_kind}
use Rattle.mv_pictures.specs.Layers.{InForce, knows}
use Rattle.mv_pictures.specs.Items.{Item, is_known, is_slice, is_picture, is_vps, item, items, vps_behind}
use Rattle.mv_pictures.specs.AccessUnits.{Placed, all_placed, begins, has_slices, is_trigger, number, placed, slices_of}
use Rattle.mv_commuting.proofs.KeptLayers.{IsOrderlyAt, items_orderly}
use Rattle.mv_commuting.proofs.Places.{begun, begun-step, none_yet, numbers_within}
use Rattle.mv_commuting.proofs.Turns.{behind_item}

knows_base : (at : InForce) → IsOrderlyAt at → (layer : ℕ) → layer ≡ 0 → knows at layer ≡ true
unfolding knows
knows_base None h layer base = refl
knows_base (Some c) h layer base = go (value_of c) refl
  where
    go : (v : Option WholeVps) → value_of c ≡ v → option_map (λ (v : WholeVps). has_layer v.derived.layers layer) v otherwise true ≡ true
    go None is = refl
    go (Some v) is = ap (has_layer v.derived.layers) base ∙ (h.orderly v is).base

pub vps_triggers : (i : Item) → IsOrderlyAt i.at → is_vps i ≡ true → is_trigger i ≡ true
vps_triggers i h is =
    let parts : (is_vps_kind i.head.kind ≡ true) × (nat_eq i.head.layer 0 ≡ true) = and_parts (is_vps_kind i.head.kind) (nat_eq i.head.layer 0) is in
    let base : i.head.layer ≡ 0 = eqb-true i.head.layer 0 parts.1 in
    let kind : i.head.kind ≡ 32 = eqb-true i.head.kind 32 parts.0 in
    three (is_known i) (nat_eq i.head.layer 0) (is_opening_kind i.head.kind || is_picture i)
    (knows_base i.at h i.head.layer base) parts.1
    (or_left (is_opening_kind i.head.kind) (is_picture i) (ap is_opening_kind kind))
  where
    three : (a b c : Bool) → a ≡ true → b ≡ true → c ≡ true → (a && b && c) ≡ true
    three a b c p q r = ap (λ a. a && b && c) p ∙ ap (λ b. true && b && c) q ∙ r

-- a slice segment is no video parameter set
pub slice_not_vps : (i : Item) → is_slice i ≡ true → is_vps i ≡ false
slice_not_vps i h = go (is_vps i) refl
  where
    go : (b : Bool) → is_vps i ≡ b → b ≡ false
    go false e = refl
    go true e =
        let kind : i.head.kind ≡ 32 = eqb-true i.head.kind 32 (and_parts (is_vps_kind i.head.kind) (nat_eq i.head.layer 0) e).0 in
        let slice : is_slice_kind i.head.kind ≡ true = (and_parts (is_known i) (is_slice_kind i.head.kind) h).1 in
        absurd (let wrong : true ≡ false = sym slice ∙ ap is_slice_kind kind in cc)

pub item_at : (us : List (List ℕ)) (u : List ℕ) → is_vps (item (items us) u) ≡ false → (item (items us) u).at ≡ vps_behind (items us)
unfolding item
item_at us u h = ap (λ b. cond b (Some (carried_vps (head u) u)) (vps_behind (items us))) h

pub slice_at : (us : List (List ℕ)) (u : List ℕ) → is_slice (item (items us) u) ≡ true → (item (items us) u).at ≡ vps_behind (items us)
slice_at us u h = item_at us u (slice_not_vps (item (items us) u) h)

-- a unit stands in the access unit that was begun last
pub au_begun : (past : List Placed) (i : Item) → (placed past i).au ≡ begun (placed past i ∷ past)
unfolding placed number
au_begun past i = sym (begun-step (placed past i) past)

abbrev InForceHere : InForce → ℕ → Placed → Type 0
InForceHere now n q = is_slice q.item ≡ true → q.au ≡ n → q.item.at ≡ now

pub no_slice : (n : ℕ) (ps : List Placed) → slices_of n ps ≡ [] → All (λ (q : Placed). is_slice q.item ≡ true → q.au ≡ n → ⊥) ps
unfolding slices_of
no_slice n [] h = All-nil (λ (q : Placed). is_slice q.item ≡ true → q.au ≡ n → ⊥)
no_slice n (p ∷ ps) h = go (is_slice p.item && nat_eq p.au n) refl h (no_slice n ps)
  where
    go : (b : Bool) → (is_slice p.item && nat_eq p.au n) ≡ b → cond b (p ∷ slices_of n ps) (slices_of n ps) ≡ [] →
        (slices_of n ps ≡ [] → All (λ (q : Placed). is_slice q.item ≡ true → q.au ≡ n → ⊥) ps) → All (λ (q : Placed). is_slice q.item ≡ true → q.au ≡ n → ⊥) (p ∷ ps)
    go true e h rest = absurd (cc)
    go false e h rest =
        All-cons (λ (q : Placed). is_slice q.item ≡ true → q.au ≡ n → ⊥) p ps
        (λ slice here. let wrong : true ≡ false = sym (and_from (is_slice p.item) (nat_eq p.au n) slice (eq-eqb p.au n here)) ∙ e in cc)
        (rest h)

pub one_vps : (us : List (List ℕ)) → All (InForceHere (vps_behind (items us)) (begun (all_placed (items us)))) (all_placed (items us))
unfolding items run all_placed placed begins number
one_vps [] = All-nil (InForceHere (vps_behind []) 0)
one_vps (u ∷ us) =
    All-cons (InForceHere (vps_behind (item (items us) u ∷ items us)) (begun (placed (all_placed (items us)) (item (items us) u) ∷ all_placed (items us))))
    (placed (all_placed (items us)) (item (items us) u)) (all_placed (items us))
    (λ slice here. sym (behind_item us u))
    (go (is_trigger (item (items us) u)) refl (has_slices (all_placed (items us))) refl (is_vps (item (items us) u)) refl (one_vps us))
  where
    more : begun (placed (all_placed (items us)) (item (items us) u) ∷ all_placed (items us)) ≡ begun (all_placed (items us)) + (if is_trigger (item (items us) u) && has_slices (all_placed (items us)) then 1 else 0)
    more = begun-step (placed (all_placed (items us)) (item (items us) u)) (all_placed (items us))

    same : (b : Bool) → (is_trigger (item (items us) u) && has_slices (all_placed (items us))) ≡ b → begun (placed (all_placed (items us)) (item (items us) u) ∷ all_placed (items us)) ≡ begun (all_placed (items us)) + (if b then 1 else 0)
    same b e = more ∙ ap (λ b. begun (all_placed (items us)) + (if b then 1 else 0)) e

    -- a unit that begins another access unit has no slice segment before it in it
    beyond : begun (placed (all_placed (items us)) (item (items us) u) ∷ all_placed (items us)) ≡ begun (all_placed (items us)) + 1 →
        All (InForceHere (vps_behind (item (items us) u ∷ items us)) (begun (placed (all_placed (items us)) (item (items us) u) ∷ all_placed (items us)))) (all_placed (items us))
    beyond one =
        All-weaker (λ (q : Placed). q.au ≤ begun (all_placed (items us))) (InForceHere (vps_behind (item (items us) u ∷ items us)) (begun (placed (all_placed (items us)) (item (items us) u) ∷ all_placed (items us))))
        (λ q le slice here. absurd (omega (arith, one, le, here)))
        (all_placed (items us)) (numbers_within (items us))

    -- one that isn't a video parameter set changes nothing
    within : begun (placed (all_placed (items us)) (item (items us) u) ∷ all_placed (items us)) ≡ begun (all_placed (items us)) + 0 → is_vps (item (items us) u) ≡ false →
        All (InForceHere (vps_behind (items us)) (begun (all_placed (items us)))) (all_placed (items us)) →
        All (InForceHere (vps_behind (item (items us) u ∷ items us)) (begun (placed (all_placed (items us)) (item (items us) u) ∷ all_placed (items us)))) (all_placed (items us))
    within none plain rest =
        All-weaker (InForceHere (vps_behind (items us)) (begun (all_placed (items us)))) (InForceHere (vps_behind (item (items us) u ∷ items us)) (begun (placed (all_placed (items us)) (item (items us) u) ∷ all_placed (items us))))
        (λ q is slice here. is slice (omega (arith, none, here)) ∙ sym (item_at us u plain) ∙ sym (behind_item us u))
        (all_placed (items us)) rest

    -- a video parameter set where the access unit has no slice segment yet
    empty : begun (placed (all_placed (items us)) (item (items us) u) ∷ all_placed (items us)) ≡ begun (all_placed (items us)) + 0 → has_slices (all_placed (items us)) ≡ false →
        All (InForceHere (vps_behind (item (items us) u ∷ items us)) (begun (placed (all_placed (items us)) (item (items us) u) ∷ all_placed (items us)))) (all_placed (items us))
    empty none has =
        All-weaker (λ (q : Placed). is_slice q.item ≡ true → q.au ≡ begun (all_placed (items us)) → ⊥) (InForceHere (vps_behind (item (items us) u ∷ items us)) (begun (placed (all_placed (items us)) (item (items us) u) ∷ all_placed (items us))))
        (λ q no_one slice here. absurd (no_one slice (omega (arith, none, here))))
        (all_placed (items us)) (no_slice (begun (all_placed (items us))) (all_placed (items us)) (none_yet (items us) has))

    go : (t : Bool) → is_trigger (item (items us) u) ≡ t → (s : Bool) → has_slices (all_placed (items us)) ≡ s → (v : Bool) → is_vps (item (items us) u) ≡ v →
        All (InForceHere (vps_behind (items us)) (begun (all_placed (items us)))) (all_placed (items us)) →
        All (InForceHere (vps_behind (item (items us) u ∷ items us)) (begun (placed (all_placed (items us)) (item (items us) u) ∷ all_placed (items us)))) (all_placed (items us))
    go true ts true has false plain rest = beyond (same true (ap (λ b. b && has_slices (all_placed (items us))) ts ∙ has))
    go true ts false has false plain rest = within (same false (ap (λ b. b && has_slices (all_placed (items us))) ts ∙ has)) plain rest
    go false ts s has false plain rest = within (same false (ap (λ b. b && has_slices (all_placed (items us))) ts)) plain rest
    go false ts s has true is rest = absurd (let wrong : true ≡ false = sym (vps_triggers (item (items us) u) (All-head (λ (i : Item). IsOrderlyAt i.at) (item (items us) u) (items us) (items_orderly (u ∷ us))) is) ∙ ts in cc)
    go true ts true has true is rest = beyond (same true (ap (λ b. b && has_slices (all_placed (items us))) ts ∙ has))
    go true ts false has true is rest = empty (same false (ap (λ b. b && has_slices (all_placed (items us))) ts ∙ has)) has
