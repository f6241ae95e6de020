-- Facts of an extract: the parameter sets that serve a kept slice segment are kept.
use Rattle.std.proofs.Common.{◌≡◌, inl, inr, ℕ, Bool, true, false, cond, not, ◌&&◌, List, [], ◌∷◌, Option, None, Some, refl, ap, sym, subst, ◌∙◌, filter, map, if◌then◌else◌}
use Rattle.std.specs.Prelude.{nat_eq, All, option_and_then, option_map}
use Rattle.std.specs.List.{find}
use Rattle.std.proofs.lemmas.Bool.{eqb-true, and_parts, not-false}
use Rattle.std.proofs.lemmas.List.Elements.{All-nil, All-cons, All-head, All-tail, All-weaker}
use mathlib.Core.Path.{fun_ext}
use Rattle.mv_syntax.specs.Words.{◌otherwise◌}
use Rattle.mv_layers.specs.OutputLayers.{is_among}
use Rattle.mv_pps.specs.Pps.{PpsValue}
use Rattle.mv_sps.specs.Sps.{SpsValue}
use Rattle.mv_slice.specs.Context.{SliceContextValue}
use Rattle.mv_slice.specs.declared.opening.SliceOpening.{SliceOpening}
use Rattle.mv_history.specs.History.{IsAlone, Keeps, Tells, Throughout, run, since}
use Rattle.mv_history.proofs.Kept.{All-both, All-since, All-unmap, Keeps-from, find-filter, find-found, find-map, since-filter, since-map}
use Rattle.mv_history.proofs.Runs.{run-filter, run_source}
use Rattle.mv_pictures.specs.Carried.{Carried, value_of, carried_sps, carried_pps}
use Rattle.mv_pictures.specs.Kinds.{is_sps_kind, is_pps_kind}
use Rattle.mv_pictures.specs.Layers.{InForce, closure, keeps}
use Rattle.mv_pictures.specs.Items.{Item, is_known, is_slice, is_first_segment, is_picture, is_vps, item, items, stays, turns, vps_behind}
use Rattle.mv_pictures.specs.AccessUnits.{Placed, all_placed, in_au, is_own_picture, layer, orphan_slice, placed}
use Rattle.mv_pictures.specs.Facts.{Fact, Sets, context_of, fact, facts, header_of, has_pps_id, has_sps_id, is_seen, max_sub_layers, named_format, named_sets, no_sets, own_picture, pps_of_unit, same_pps_id, seen_pps, seen_sps, served_by, sets_of, sps_of_unit, turned}
use Rattle.mv_commuting.proofs.Closures.{find_all}
use Rattle.mv_commuting.proofs.Items.{base_stays, each, items-keep, vps_stays}
use Rattle.mv_commuting.proofs.KeptLayers.{IsOrderlyAt, closure_kept, items_orderly}
use Rattle.mv_commuting.proofs.OneVps.{au_begun, one_vps, slice_at}
use Rattle.mv_commuting.proofs.Places.{HasBases, begun, of_item, placed-keep}
use Rattle.mv_commuting.proofs.Turns.{IsInForce, behind_item, in_force}

-- each segment that isn't a first one has its picture before it
abbrev pub HasPictures : List (List ℕ) → Type 0
HasPictures = Throughout (λ past u. orphan_slice (all_placed (items past)) (placed (all_placed (items past)) (item (items past) u)) ≡ false)

-- what is kept of facts
abbrev pub fact_stays : ℕ → Fact → Bool
fact_stays o f = stays o f.placed.item

abbrev pub all_facts : List (List ℕ) → List Fact
all_facts us = facts (all_placed (items us))

fact_tells : Tells fact (λ (f : Fact). f.placed)
unfolding fact
fact_tells past p = refl

placed_tells : Tells placed (λ (p : Placed). p.item)
unfolding placed
placed_tells past i = refl

pub facts_placed : (us : List (List ℕ)) → map (λ (f : Fact). f.placed) (all_facts us) ≡ all_placed (items us)
unfolding facts
facts_placed us = run_source fact (λ (f : Fact). f.placed) fact_tells (all_placed (items us))

pub placed_items : (us : List (List ℕ)) → map (λ (p : Placed). p.item) (all_placed (items us)) ≡ items us
unfolding all_placed
placed_items us = run_source placed (λ (p : Placed). p.item) placed_tells (items us)

-- ---- Sets in reach

-- what a fact says of its unit
record IsOfUnit (f : Fact) : Type 0 where
  pub sps : f.sps_unit ≡ sps_of_unit f.placed.item
  pub pps : f.pps_unit ≡ pps_of_unit f.placed.item

run_of_unit : (ps : List Placed) → All IsOfUnit (run fact ps)
unfolding run fact
run_of_unit [] = All-nil IsOfUnit
run_of_unit (p ∷ ps) = All-cons IsOfUnit (fact (run fact ps) p) (run fact ps) (record { sps = refl; pps = refl }) (run_of_unit ps)

-- since the latest change of the video parameter set: the one in force now, or none
abbrev Reaches : InForce → Fact → Type 0
Reaches now f = IsInForce now f.placed.item.at × IsOfUnit f

since_reaches : (us : List (List ℕ)) → All (Reaches (vps_behind (items us))) (since turned (all_facts us))
unfolding facts
since_reaches us =
    All-both (λ (f : Fact). IsInForce (vps_behind (items us)) f.placed.item.at) IsOfUnit (since turned (run fact (all_placed (items us))))
    (All-unmap (λ (i : Item). IsInForce (vps_behind (items us)) i.at) (λ (f : Fact). f.placed.item) (since turned (run fact (all_placed (items us))))
    (subst (All (λ (i : Item). IsInForce (vps_behind (items us)) i.at))
    (ap (since turns) (sym (told us)) ∙ since-map (λ (f : Fact). f.placed.item) turns (run fact (all_placed (items us))))
    (in_force us)))
    (All-since IsOfUnit turned (run fact (all_placed (items us))) (run_of_unit (all_placed (items us))))
  where
    map_map : (fs : List Fact) → map (λ (f : Fact). f.placed.item) fs ≡ map (λ (p : Placed). p.item) (map (λ (f : Fact). f.placed) fs)
    map_map [] = refl
    map_map (f ∷ fs) = ap (λ is. f.placed.item ∷ is) (map_map fs)

    told : (us : List (List ℕ)) → map (λ (f : Fact). f.placed.item) (run fact (all_placed (items us))) ≡ items us
    told us = map_map (run fact (all_placed (items us))) ∙ ap (map (λ (p : Placed). p.item)) (facts_placed us) ∙ placed_items us

turned_stays : (o : ℕ) (fs : List Fact) → Keeps turned (fact_stays o) fs
unfolding turns
turned_stays o fs = each (λ f. turned f ≡ true → fact_stays o f ≡ true) (λ f h. vps_stays o f.placed.item (and_parts (is_vps f.placed.item) _ h).0) fs

-- a layer in the closure of a kept layer is kept at a unit since the latest change
reached_stays : (o : ℕ) (now : InForce) (i : Item) → IsInForce now i.at → keeps o now i.head.layer ≡ true → stays o i ≡ true
unfolding stays keeps
reached_stays o now i (inl none) h = ap (λ at. keeps o at i.head.layer) none
reached_stays o now i (inr same) h = ap (λ at. keeps o at i.head.layer) same ∙ h

record Seen {A : Type 0} (at : InForce) (layer : ℕ) (unit : Option (Carried A)) : Type 0 where
  pub set : Carried A
  pub unit_is : unit ≡ Some set
  pub near : is_among (closure at layer) set.layer ≡ true

seen_is : {A : Type 0} (at : InForce) (layer : ℕ) (has_id : A → Bool) (unit : Option (Carried A)) → is_seen at layer has_id unit ≡ true → Seen at layer unit
unfolding is_seen
seen_is at layer has_id None h = absurd (let wrong : true ≡ false = sym h in cc)
seen_is at layer has_id (Some c) h = record { set = c; unit_is = refl; near = (and_parts (is_among (closure at layer) c.layer) (option_map has_id (value_of c) otherwise false) h).0 }

pps_layer : (i : Item) (c : Carried PpsValue) → pps_of_unit i ≡ Some c → c.layer ≡ i.head.layer
unfolding pps_of_unit carried_pps
pps_layer i c h = go (is_known i && is_pps_kind i.head.kind) h
  where
    go : (b : Bool) → cond b (Some (carried_pps i.head i.bytes)) None ≡ Some c → c.layer ≡ i.head.layer
    go false h = absurd (cc)
    go true h = let same : carried_pps i.head i.bytes ≡ c = cc in ap (λ (c : Carried PpsValue). c.layer) (sym same)

sps_layer : (i : Item) (c : Carried SpsValue) → sps_of_unit i ≡ Some c → c.layer ≡ i.head.layer
unfolding sps_of_unit carried_sps
sps_layer i c h = go (is_known i && is_sps_kind i.head.kind) h
  where
    go : (b : Bool) → cond b (Some (carried_sps (max_sub_layers i.at) i.head i.bytes)) None ≡ Some c → c.layer ≡ i.head.layer
    go false h = absurd (cc)
    go true h = let same : carried_sps (max_sub_layers i.at) i.head i.bytes ≡ c = cc in ap (λ (c : Carried SpsValue). c.layer) (sym same)

-- a unit for which a set is asked: the video parameter set in force, and its layer, which is kept
record Asks (o : ℕ) (us : List (List ℕ)) (at : InForce) (layer : ℕ) : Type 0 where
  pub orderly : IsOrderlyAt at
  pub now : at ≡ vps_behind (items us)
  pub kept : keeps o at layer ≡ true

seen_stays : {A : Type 0} (o : ℕ) (us : List (List ℕ)) (at : InForce) (layer : ℕ) → Asks o us at layer → (f : Fact) → Reaches (vps_behind (items us)) f →
    (unit : Option (Carried A)) → ((c : Carried A) → unit ≡ Some c → c.layer ≡ f.placed.item.head.layer) → Seen at layer unit → fact_stays o f ≡ true
seen_stays o us at layer asks f reaches unit of_layer seen =
    reached_stays o (vps_behind (items us)) f.placed.item reaches.0
    (subst (λ at. keeps o at f.placed.item.head.layer ≡ true) asks.now
    (subst (λ l. keeps o at l ≡ true) (of_layer seen.set seen.unit_is) (closure_kept o at asks.orderly layer seen.set.layer asks.kept seen.near)))

seen_pps-kept : (o : ℕ) (us : List (List ℕ)) (at : InForce) (layer id : ℕ) → Asks o us at layer →
    seen_pps (filter (fact_stays o) (all_facts us)) at layer id ≡ seen_pps (all_facts us) at layer id
unfolding seen_pps
seen_pps-kept o us at layer id asks =
    ap (option_and_then (λ (f : Fact). f.pps_unit))
    (ap (find (λ (f : Fact). is_seen at layer (has_pps_id id) f.pps_unit)) (since-filter turned (fact_stays o) (all_facts us) (turned_stays o (all_facts us)))
    ∙ find-filter (λ (f : Fact). is_seen at layer (has_pps_id id) f.pps_unit) (fact_stays o) (since turned (all_facts us))
    (Keeps-from (Reaches (vps_behind (items us))) (λ (f : Fact). is_seen at layer (has_pps_id id) f.pps_unit) (fact_stays o) (since turned (all_facts us))
    (λ f reaches seen. seen_stays o us at layer asks f reaches f.pps_unit (λ c is. pps_layer f.placed.item c (sym reaches.1.pps ∙ is)) (seen_is at layer (has_pps_id id) f.pps_unit seen))
    (since_reaches us)))

seen_sps-kept : (o : ℕ) (us : List (List ℕ)) (at : InForce) (layer id : ℕ) → Asks o us at layer →
    seen_sps (filter (fact_stays o) (all_facts us)) at layer id ≡ seen_sps (all_facts us) at layer id
unfolding seen_sps
seen_sps-kept o us at layer id asks =
    ap (option_and_then (λ (f : Fact). f.sps_unit))
    (ap (find (λ (f : Fact). is_seen at layer (has_sps_id id) f.sps_unit)) (since-filter turned (fact_stays o) (all_facts us) (turned_stays o (all_facts us)))
    ∙ find-filter (λ (f : Fact). is_seen at layer (has_sps_id id) f.sps_unit) (fact_stays o) (since turned (all_facts us))
    (Keeps-from (Reaches (vps_behind (items us))) (λ (f : Fact). is_seen at layer (has_sps_id id) f.sps_unit) (fact_stays o) (since turned (all_facts us))
    (λ f reaches seen. seen_stays o us at layer asks f reaches f.sps_unit (λ c is. sps_layer f.placed.item c (sym reaches.1.sps ∙ is)) (seen_is at layer (has_sps_id id) f.sps_unit seen))
    (since_reaches us)))

-- the sets that a kept segment names
named_by : Placed → (ℕ → Option (Carried PpsValue)) → (ℕ → Option (Carried SpsValue)) → Sets
named_by p pps sps =
    let picture_set : Option (Carried PpsValue) = option_and_then pps (option_map (λ (o : SliceOpening). o.slice_pic_parameter_set_id) p.item.opening) in
    let sequence_set : Option (Carried SpsValue) = option_and_then (λ (v : PpsValue). sps v.opening.pps_seq_parameter_set_id) (option_and_then value_of picture_set) in
    record { pps = picture_set; sps = sequence_set; format = named_format p sequence_set }

named_is : (past : List Fact) (p : Placed) → named_sets past p ≡ named_by p (seen_pps past p.item.at p.item.head.layer) (seen_sps past p.item.at p.item.head.layer)
unfolding named_sets named_by
named_is past p = refl

named-kept : (o : ℕ) (us : List (List ℕ)) (p : Placed) → Asks o us p.item.at p.item.head.layer → named_sets (filter (fact_stays o) (all_facts us)) p ≡ named_sets (all_facts us) p
named-kept o us p asks =
    named_is (filter (fact_stays o) (all_facts us)) p
    ∙ ap (λ pps. named_by p pps (seen_sps (filter (fact_stays o) (all_facts us)) p.item.at p.item.head.layer)) (fun_ext (λ id. seen_pps-kept o us p.item.at p.item.head.layer id asks))
    ∙ ap (λ sps. named_by p (seen_pps (all_facts us) p.item.at p.item.head.layer) sps) (fun_ext (λ id. seen_sps-kept o us p.item.at p.item.head.layer id asks))
    ∙ sym (named_is (all_facts us) p)

-- ---- The picture of a later segment

-- the latest picture before a kept segment that isn't a first one is of its layer and access unit, and kept
pub latest_picture : (us : List (List ℕ)) → find (λ (q : Placed). is_picture q.item) (all_placed (items us)) ≡ option_map (λ (f : Fact). f.placed) (find (λ (f : Fact). is_picture f.placed.item) (all_facts us))
latest_picture us = ap (find (λ (q : Placed). is_picture q.item)) (sym (facts_placed us)) ∙ find-map (λ (f : Fact). f.placed) (λ (q : Placed). is_picture q.item) (all_facts us)

pub own_stays : (o : ℕ) (p q : Placed) → keeps o p.item.at p.item.head.layer ≡ true → is_own_picture p q ≡ true → q.item.at ≡ p.item.at → stays o q.item ≡ true
unfolding stays is_own_picture
own_stays o p q kept own same =
    ap (λ at. keeps o at q.item.head.layer) same
    ∙ ap (keeps o p.item.at) (eqb-true q.item.head.layer p.item.head.layer (and_parts (nat_eq (layer q) (layer p)) (in_au p.au q) own).0)
    ∙ kept

abbrev pub this : (us : List (List ℕ)) → List ℕ → Placed
this us u = placed (all_placed (items us)) (item (items us) u)

-- the pictures of the access unit of a unit have the video parameter set that is in force at it
pub one_vps-here : (us : List (List ℕ)) (u : List ℕ) → All (λ (q : Placed). is_slice q.item ≡ true → q.au ≡ (this us u).au → q.item.at ≡ (this us u).item.at) (all_placed (items us))
unfolding all_placed items run placed
one_vps-here us u =
    All-weaker (λ (q : Placed). is_slice q.item ≡ true → q.au ≡ begun (placed (all_placed (items us)) (item (items us) u) ∷ all_placed (items us)) → q.item.at ≡ vps_behind (item (items us) u ∷ items us))
    (λ (q : Placed). is_slice q.item ≡ true → q.au ≡ (this us u).au → q.item.at ≡ (this us u).item.at)
    (λ q is slice here. is slice (here ∙ au_begun (all_placed (items us)) (item (items us) u)) ∙ behind_item us u)
    (all_placed (items us))
    (All-tail (λ (q : Placed). is_slice q.item ≡ true → q.au ≡ begun (placed (all_placed (items us)) (item (items us) u) ∷ all_placed (items us)) → q.item.at ≡ vps_behind (item (items us) u ∷ items us))
    (placed (all_placed (items us)) (item (items us) u)) (all_placed (items us)) (one_vps (u ∷ us)))

pub own_picture-kept : (o : ℕ) (us : List (List ℕ)) (u : List ℕ) → stays o (this us u).item ≡ true → is_slice (this us u).item ≡ true →
    orphan_slice (all_placed (items us)) (this us u) ≡ false → own_picture (filter (fact_stays o) (all_facts us)) (this us u) ≡ own_picture (all_facts us) (this us u)
unfolding own_picture orphan_slice stays is_own_picture
own_picture-kept o us u kept slice orphan = go (is_picture (this us u).item) refl (find (λ (f : Fact). is_picture f.placed.item) (all_facts us)) refl
  where
    none_own : (x : Option Fact) → is_picture (this us u).item ≡ true → option_and_then (λ (f : Fact). if not (is_picture (this us u).item) && is_own_picture (this us u) f.placed then Some f else None) x ≡ None
    none_own None e = refl
    none_own (Some f) e = ap (λ b. cond (not b && is_own_picture (this us u) f.placed) (Some f) None) e

    has_own : (pic : Bool) → is_picture (this us u).item ≡ pic → pic ≡ false → (x : Option Fact) → find (λ (f : Fact). is_picture f.placed.item) (all_facts us) ≡ x →
        (option_map (is_own_picture (this us u)) (option_map (λ (f : Fact). f.placed) x) otherwise false) ≡ true
    has_own true e no_pic x is = absurd (cc)
    has_own false e no_pic x is =
        let found : find (λ (q : Placed). is_picture q.item) (all_placed (items us)) ≡ option_map (λ (f : Fact). f.placed) x = latest_picture us ∙ ap (option_map (λ (f : Fact). f.placed)) is in
        let broken : (true && not false && not (option_map (is_own_picture (this us u)) (option_map (λ (f : Fact). f.placed) x) otherwise false)) ≡ false =
        sym (ap (λ s. s && not (is_picture (this us u).item) && not (option_map (is_own_picture (this us u)) (find (λ (q : Placed). is_picture q.item) (all_placed (items us))) otherwise false)) slice
        ∙ ap (λ b. true && not b && not (option_map (is_own_picture (this us u)) (find (λ (q : Placed). is_picture q.item) (all_placed (items us))) otherwise false)) e
        ∙ ap (λ q. true && not false && not (option_map (is_own_picture (this us u)) q otherwise false)) found)
        ∙ orphan in
        not-false (option_map (is_own_picture (this us u)) (option_map (λ (f : Fact). f.placed) x) otherwise false) broken

    go : (pic : Bool) → is_picture (this us u).item ≡ pic → (x : Option Fact) → find (λ (f : Fact). is_picture f.placed.item) (all_facts us) ≡ x →
        option_and_then (λ (f : Fact). if not (is_picture (this us u).item) && is_own_picture (this us u) f.placed then Some f else None) (find (λ (f : Fact). is_picture f.placed.item) (filter (fact_stays o) (all_facts us)))
        ≡ option_and_then (λ (f : Fact). if not (is_picture (this us u).item) && is_own_picture (this us u) f.placed then Some f else None) (find (λ (f : Fact). is_picture f.placed.item) (all_facts us))
    go true e x is = none_own (find (λ (f : Fact). is_picture f.placed.item) (filter (fact_stays o) (all_facts us))) e ∙ sym (none_own (find (λ (f : Fact). is_picture f.placed.item) (all_facts us)) e)
    go false e None is = absurd (let wrong : false ≡ true = has_own false e refl None is in cc)
    go false e (Some f) is =
        let own : is_own_picture (this us u) f.placed ≡ true = has_own false e refl (Some f) is in
        let there = find_all (λ (q : Placed). is_slice q.item ≡ true → q.au ≡ (this us u).au → q.item.at ≡ (this us u).item.at) (λ (q : Placed). is_picture q.item) (all_placed (items us)) f.placed (one_vps-here us u)
        (latest_picture us ∙ ap (option_map (λ (f : Fact). f.placed)) is) in
        let same : f.placed.item.at ≡ (this us u).item.at = there.0 (and_parts (is_slice f.placed.item) (is_first_segment f.placed.item.opening) there.1).0
        (eqb-true f.placed.au (this us u).au (and_parts (nat_eq (layer f.placed) (layer (this us u))) (in_au (this us u).au f.placed) own).1) in
        ap (option_and_then (λ (f : Fact). if not (is_picture (this us u).item) && is_own_picture (this us u) f.placed then Some f else None))
        (find-found (λ (f : Fact). is_picture f.placed.item) (fact_stays o) (all_facts us) f is (own_stays o (this us u) f.placed kept own same) ∙ sym is)

served-kept : (o : ℕ) (us : List (List ℕ)) (u : List ℕ) → stays o (this us u).item ≡ true → is_slice (this us u).item ≡ true →
    orphan_slice (all_placed (items us)) (this us u) ≡ false → served_by (filter (fact_stays o) (all_facts us)) (this us u) ≡ served_by (all_facts us) (this us u)
unfolding served_by
served-kept o us u kept slice orphan =
    ap (option_and_then (λ (f : Fact). if same_pps_id (this us u) f.placed then Some f else None)) (own_picture-kept o us u kept slice orphan)

-- ---- The sets and the header

asks_here : (o : ℕ) (us : List (List ℕ)) (u : List ℕ) → stays o (this us u).item ≡ true → is_slice (this us u).item ≡ true → Asks o us (this us u).item.at (this us u).item.head.layer
unfolding stays placed
asks_here o us u kept slice = record {
  orderly = All-head (λ (i : Item). IsOrderlyAt i.at) (item (items us) u) (items us) (orderly_all us u);
  now = slice_at us u slice;
  kept = kept;
}
  where
    orderly_all : (us : List (List ℕ)) (u : List ℕ) → All (λ (i : Item). IsOrderlyAt i.at) (item (items us) u ∷ items us)
    orderly_all us u = unfold items run in items_orderly (u ∷ us)

sets-kept : (o : ℕ) (us : List (List ℕ)) (u : List ℕ) → stays o (this us u).item ≡ true → orphan_slice (all_placed (items us)) (this us u) ≡ false →
    sets_of (filter (fact_stays o) (all_facts us)) (this us u) ≡ sets_of (all_facts us) (this us u)
unfolding sets_of
sets-kept o us u kept orphan = go (is_slice (this us u).item) refl
  where
    go : (b : Bool) → is_slice (this us u).item ≡ b →
        cond (not b) no_sets (option_map (λ (f : Fact). f.sets) (served_by (filter (fact_stays o) (all_facts us)) (this us u)) otherwise named_sets (filter (fact_stays o) (all_facts us)) (this us u))
        ≡ cond (not b) no_sets (option_map (λ (f : Fact). f.sets) (served_by (all_facts us) (this us u)) otherwise named_sets (all_facts us) (this us u))
    go false e = refl
    go true e =
        ap (λ served. option_map (λ (f : Fact). f.sets) served otherwise named_sets (filter (fact_stays o) (all_facts us)) (this us u)) (served-kept o us u kept e orphan)
        ∙ ap (λ named. option_map (λ (f : Fact). f.sets) (served_by (all_facts us) (this us u)) otherwise named) (named-kept o us (this us u) (asks_here o us u kept e))

fact_by : Sets → Placed → Fact
fact_by serving p =
    let ctx : Option SliceContextValue = context_of p serving in
    record {
      placed = p;
      sps_unit = sps_of_unit p.item;
      pps_unit = pps_of_unit p.item;
      sets = serving;
      context = ctx;
      header = option_map (header_of p.item) ctx;
    }

fact-by : (past : List Fact) (p : Placed) → fact past p ≡ fact_by (sets_of past p) p
unfolding fact fact_by
fact-by past p = refl

fact_alone : (o : ℕ) (us : List (List ℕ)) (u : List ℕ) → orphan_slice (all_placed (items us)) (this us u) ≡ false → IsAlone fact (fact_stays o) (all_placed (items us)) (this us u)
unfolding fact facts
fact_alone o us u orphan kept =
    fact-by (filter (fact_stays o) (all_facts us)) (this us u)
    ∙ ap (λ serving. fact_by serving (this us u)) (sets-kept o us u kept orphan)
    ∙ sym (fact-by (all_facts us) (this us u))

facts_alone : (o : ℕ) (us : List (List ℕ)) → HasPictures us → Throughout (IsAlone fact (fact_stays o)) (all_placed (items us))
unfolding items all_placed run
facts_alone o [] h = tt
facts_alone o (u ∷ us) h = (fact_alone o us u h.0, facts_alone o us h.1)

-- the facts of what is kept are those that are kept
pub facts-keep : (o : ℕ) (us : List (List ℕ)) → HasPictures us → facts (filter (of_item (stays o)) (all_placed (items us))) ≡ filter (fact_stays o) (facts (all_placed (items us)))
unfolding facts
facts-keep o us h = run-filter fact (λ (f : Fact). f.placed) (of_item (stays o)) fact_tells (all_placed (items us)) (facts_alone o us h)

-- so the facts of an extract are those that are kept
pub extract-facts : (o : ℕ) (us : List (List ℕ)) → HasBases (items us) → HasPictures us →
    facts (all_placed (items (map (λ (i : Item). i.bytes) (filter (stays o) (items us))))) ≡ filter (fact_stays o) (facts (all_placed (items us)))
extract-facts o us bases pictures =
    ap (λ is. facts (all_placed is)) (items-keep o us)
    ∙ ap facts (placed-keep (stays o) (base_stays o) (items us) bases)
    ∙ facts-keep o us pictures
