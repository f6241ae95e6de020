-- In an accepted stream the units of a sequence up to a slice segment of a layer above 0 have one video parameter set.
use Rattle.std.proofs.Common.{◌≡◌, ◌⊎◌, inr, ℕ, ◌+◌, Bool, true, false, cond, not, ◌&&◌, ◌||◌, List, [], ◌∷◌, length, Option, None, Some, refl, ap, sym, subst, ◌∙◌, if◌then◌else◌, arith}
use Rattle.std.specs.Prelude.{nat_eq, All, option_map}
use Rattle.std.specs.List.{find, list_any}
use Rattle.std.proofs.lemmas.Bool.{eqb-true, eq-eqb, and_parts, and_from, and_left, or_left, or_right, or_parts, not-false}
use Rattle.std.proofs.lemmas.List.Elements.{All-nil, All-cons, All-head, All-weaker}
use Rattle.mv_syntax.specs.Words.{◌otherwise◌}
use Rattle.mv_history.specs.History.{Throughout, run, since, from}
use Rattle.mv_pictures.specs.Layers.{InForce}
use Rattle.mv_pictures.specs.Items.{Item, is_first_segment, is_slice, is_picture, is_vps, item, items, turns, vps_behind}
use Rattle.mv_pictures.specs.AccessUnits.{Placed, all_placed, begins as begins_unit, has_changed_vps, has_slices, in_au, is_own_picture, is_trigger, layer, layer_order, no_base, number, orphan_slice, placed, slices_of}
use Rattle.mv_pictures.specs.Facts.{Fact, fact, facts}
use Rattle.mv_pictures.specs.Judged.{Judged, begins}
use Rattle.mv_pictures.specs.Look.{asked, look, sequence}
use Rattle.mv_pictures.specs.Starts.{is_sequence_start}
use Rattle.mv_pictures.specs.UnitRules.{no_vps}
use Rattle.mv_pictures.specs.PictureRules.{vps_mid_cvs}
use Rattle.mv_pictures.specs.History.{history, judged, judgement}
use Rattle.mv_commuting.proofs.Closures.{find_all}
use Rattle.mv_commuting.proofs.Facts.{all_facts, this}
use Rattle.mv_commuting.proofs.KeptLayers.{IsOrderlyAt, items_orderly}
use Rattle.mv_commuting.proofs.OneVps.{au_begun, no_slice, slice_not_vps, vps_triggers}
use Rattle.mv_commuting.proofs.Places.{begun, begun-step, has_slices-step, none_yet}
use Rattle.mv_commuting.proofs.Turns.{IsInForce, behind_item, later_in_force, unturned}

-- the fact and the judgement of a unit behind others
abbrev pub this_fact : List (List ℕ) → List ℕ → Fact
this_fact us u = fact (all_facts us) (this us u)

abbrev pub hist : List (List ℕ) → List Judged
hist us = history (all_facts us)

abbrev pub this_judged : List (List ℕ) → List ℕ → Judged
this_judged us u = judged (hist us) (this_fact us u)

-- the rules that commutation needs
pub record IsFine (us : List (List ℕ)) (u : List ℕ) : Type 0 where
  pub base : no_base (all_placed (items us)) (this us u) ≡ false
  pub order : layer_order (all_placed (items us)) (this us u) ≡ false
  pub own : orphan_slice (all_placed (items us)) (this us u) ≡ false
  pub vps : no_vps (this us u).item ≡ false
  pub mid : vps_mid_cvs (all_placed (items us)) (look (asked (hist us) (this_fact us u)) (this_fact us u)) (this_fact us u) ≡ false

abbrev pub AllFine : List (List ℕ) → Type 0
AllFine = Throughout IsFine

-- a changed video parameter set came behind the latest slice segment
abbrev pub is_pending : List Placed → Bool
is_pending ps = list_any (λ (q : Placed). turns q.item) (since (λ (q : Placed). is_slice q.item) ps)

abbrev has_turned : ℕ → List Placed → Bool
has_turned n ps = list_any (λ (q : Placed). turns q.item && in_au n q) ps

pub item_orderly : (us : List (List ℕ)) (u : List ℕ) → IsOrderlyAt (item (items us) u).at
unfolding items run
item_orderly us u = All-head (λ (i : Item). IsOrderlyAt i.at) (item (items us) u) (items us) (items_orderly (u ∷ us))

slice_plain : (i : Item) → is_slice i ≡ true → turns i ≡ false
unfolding turns
slice_plain i h = and_left (is_vps i) _ (slice_not_vps i h)

turn_is_vps : (i : Item) → turns i ≡ true → is_vps i ≡ true
unfolding turns
turn_is_vps i h = (and_parts (is_vps i) _ h).0

and_false : (a : Bool) → (a && false) ≡ false
and_false true = refl
and_false false = refl

either : (t : Bool) → cond (false || t) false false ≡ false
either true = refl
either false = refl

begins_not : (us : List (List ℕ)) (u : List ℕ) → has_slices (all_placed (items us)) ≡ false → (this us u).begins ≡ false
unfolding placed begins_unit
begins_not us u h = ap (λ b. is_trigger (item (items us) u) && b) h ∙ and_false (is_trigger (item (items us) u))

-- then the access unit has no slice segment yet, and has the changed one
pending : (us : List (List ℕ)) → is_pending (all_placed (items us)) ≡ true →
    (has_slices (all_placed (items us)) ≡ false) × (has_turned (begun (all_placed (items us))) (all_placed (items us)) ≡ true)
unfolding items run all_placed placed since
pending [] h = absurd (let wrong : true ≡ false = sym h in cc)
pending (u ∷ us) h = go (is_slice (item (items us) u)) refl (turns (item (items us) u)) refl h (pending us)
  where
    go : (s : Bool) → is_slice (item (items us) u) ≡ s → (t : Bool) → turns (item (items us) u) ≡ t →
        list_any (λ (q : Placed). turns q.item) (cond s [] (this us u ∷ since (λ (q : Placed). is_slice q.item) (all_placed (items us)))) ≡ true →
        (is_pending (all_placed (items us)) ≡ true → (has_slices (all_placed (items us)) ≡ false) × (has_turned (begun (all_placed (items us))) (all_placed (items us)) ≡ true)) →
        (has_slices (this us u ∷ all_placed (items us)) ≡ false) × (has_turned (begun (this us u ∷ all_placed (items us))) (this us u ∷ all_placed (items us)) ≡ true)
    go true s t ts h rest = absurd (let wrong : true ≡ false = sym h in cc)
    go false s true ts h rest =
        let t : is_trigger (item (items us) u) ≡ true = vps_triggers (item (items us) u) (item_orderly us u) (turn_is_vps (item (items us) u) ts) in (
          has_slices-step (this us u) (all_placed (items us))
              ∙ ap (λ s. cond (s || is_trigger (item (items us) u)) s (has_slices (all_placed (items us)))) s
              ∙ ap (λ t. cond (false || t) false (has_slices (all_placed (items us)))) t,
          or_left (turns (item (items us) u) && in_au (begun (this us u ∷ all_placed (items us))) (this us u)) (has_turned (begun (this us u ∷ all_placed (items us))) (all_placed (items us)))
              (and_from (turns (item (items us) u)) (in_au (begun (this us u ∷ all_placed (items us))) (this us u)) ts
              (eq-eqb (this us u).au (begun (this us u ∷ all_placed (items us))) (au_begun (all_placed (items us)) (item (items us) u)))),
        )
    go false s false ts h rest =
        let before = rest (sym (ap (λ b. b || is_pending (all_placed (items us))) ts) ∙ h) in
        let same : begun (this us u ∷ all_placed (items us)) ≡ begun (all_placed (items us)) + 0 = begun-step (this us u) (all_placed (items us)) ∙ ap (λ b. begun (all_placed (items us)) + (if b then 1 else 0)) (begins_not us u before.0) in (
          has_slices-step (this us u) (all_placed (items us))
              ∙ ap (λ s. cond (s || is_trigger (item (items us) u)) s (has_slices (all_placed (items us)))) s
              ∙ ap (λ has. cond (false || is_trigger (item (items us) u)) false has) before.0
              ∙ either (is_trigger (item (items us) u)),
          or_right (turns (item (items us) u) && in_au (begun (this us u ∷ all_placed (items us))) (this us u)) (has_turned (begun (this us u ∷ all_placed (items us))) (all_placed (items us)))
              (ap (λ n. has_turned n (all_placed (items us))) (let exact : begun (this us u ∷ all_placed (items us)) ≡ begun (all_placed (items us)) = omega (arith, same) in exact) ∙ before.1),
        )

-- a slice segment then is a base picture that starts a sequence
pub record StartsAll (us : List (List ℕ)) (u : List ℕ) : Type 0 where
  pub base : nat_eq (this us u).item.head.layer 0 ≡ true
  pub begins : begins (this_judged us u) ≡ true

pub no_own : (n : ℕ) (p : Placed) (ps : List Placed) → slices_of n ps ≡ [] → p.au ≡ n → (option_map (is_own_picture p) (find (λ (q : Placed). is_picture q.item) ps) otherwise false) ≡ true → ⊥
unfolding is_own_picture
no_own n p ps none here own = go (find (λ (q : Placed). is_picture q.item) ps) refl own
  where
    go : (x : Option Placed) → find (λ (q : Placed). is_picture q.item) ps ≡ x → (option_map (λ q. nat_eq (layer q) (layer p) && in_au p.au q) x otherwise false) ≡ true → ⊥
    go None is own = let wrong : true ≡ false = sym own in cc
    go (Some q) is own =
        let found = find_all (λ (q : Placed). is_slice q.item ≡ true → q.au ≡ n → ⊥) (λ (q : Placed). is_picture q.item) ps q (no_slice n ps none) is in
        found.0 (and_parts (is_slice q.item) (is_first_segment q.item.opening) found.1).0 (eqb-true q.au p.au (and_parts (nat_eq (layer q) (layer p)) (in_au p.au q) own).1 ∙ here)

pub judged_seq : (us : List (List ℕ)) (u : List ℕ) → (this_judged us u).seq ≡ is_sequence_start (look (asked (hist us) (this_fact us u)) (this_fact us u)) (this_fact us u)
unfolding judged judgement
judged_seq us u = refl

judged_layer : (us : List (List ℕ)) (u : List ℕ) → (this_judged us u).fact.placed ≡ this us u
unfolding judged judgement fact
judged_layer us u = refl

pub pending_starts : (us : List (List ℕ)) (u : List ℕ) → IsFine us u → is_slice (this us u).item ≡ true → is_pending (all_placed (items us)) ≡ true → StartsAll us u
unfolding no_base orphan_slice vps_mid_cvs has_changed_vps fact judged judgement number placed run all_placed
pending_starts us u fine slice waits = record { base = base; begins = and_from (nat_eq (this us u).item.head.layer 0) (this_judged us u).seq base starts }
  where
    before : (has_slices (all_placed (items us)) ≡ false) × (has_turned (begun (all_placed (items us))) (all_placed (items us)) ≡ true)
    before = pending us waits

    none : slices_of (begun (all_placed (items us))) (all_placed (items us)) ≡ []
    none = none_yet (items us) before.0

    here : (this us u).au ≡ begun (all_placed (items us))
    here =
        let same : (this us u).au ≡ begun (all_placed (items us)) + 0 = ap (λ b. begun (all_placed (items us)) + (if b then 1 else 0)) (begins_not us u before.0) in
        omega (arith, same)

    base : nat_eq (this us u).item.head.layer 0 ≡ true
    base = not-false (nat_eq (this us u).item.head.layer 0) (
        all_but (is_slice (this us u).item) (not (nat_eq (this us u).item.head.layer 0)) (nat_eq (length (slices_of (this us u).au (all_placed (items us)))) 0)
        slice (ap (λ n. nat_eq (length (slices_of n (all_placed (items us)))) 0) here ∙ ap (λ (qs : List Placed). nat_eq (length qs) 0) none) fine.base)
      where
        all_but : (a b c : Bool) → a ≡ true → c ≡ true → (a && b && c) ≡ false → b ≡ false
        all_but a false c p q h = refl
        all_but a true c p q h = absurd (let wrong : true ≡ false = sym (ap (λ a. a && true && c) p ∙ q) ∙ h in cc)

    picture : is_picture (this us u).item ≡ true
    picture = go (is_picture (this us u).item) refl
      where
        go : (b : Bool) → is_picture (this us u).item ≡ b → b ≡ true
        go true e = refl
        go false e = absurd (no_own (begun (all_placed (items us))) (this us u) (all_placed (items us)) none here
            (not-false (option_map (is_own_picture (this us u)) (find (λ (q : Placed). is_picture q.item) (all_placed (items us))) otherwise false)
            (sym (ap (λ a. a && not (is_picture (this us u).item) && not (option_map (is_own_picture (this us u)) (find (λ (q : Placed). is_picture q.item) (all_placed (items us))) otherwise false)) slice
            ∙ ap (λ b. true && not b && not (option_map (is_own_picture (this us u)) (find (λ (q : Placed). is_picture q.item) (all_placed (items us))) otherwise false)) e) ∙ fine.own)))

    changed : has_changed_vps (all_placed (items us)) (this us u) ≡ true
    changed = ap (λ n. has_turned n (all_placed (items us))) here ∙ before.1

    starts : (this_judged us u).seq ≡ true
    starts = not-false (this_judged us u).seq (
        inner (nat_eq (this us u).item.head.layer 0) (is_picture (this us u).item) (not (this_judged us u).seq) (has_changed_vps (all_placed (items us)) (this us u)) base picture changed fine.mid)
      where
        inner : (a b c d : Bool) → a ≡ true → b ≡ true → d ≡ true → (a && b && c && d) ≡ false → c ≡ false
        inner a b false d p q r h = refl
        inner a b true d p q r h = absurd (let wrong : true ≡ false = sym (ap (λ a. a && b && true && d) p ∙ ap (λ b. true && b && true && d) q ∙ r) ∙ h in cc)

-- since the latest start of a sequence: the video parameter set in force now, or none, where none changed behind the latest slice segment
abbrev pub InForceIn : InForce → Judged → Type 0
InForceIn now d = IsInForce now d.fact.placed.item.at

pub steady : (us : List (List ℕ)) → AllFine us → is_pending (all_placed (items us)) ≡ false → All (InForceIn (vps_behind (items us))) (sequence (hist us))
unfolding items run all_placed placed since sequence from history facts
steady [] fine h = All-nil (InForceIn (vps_behind []))
steady (u ∷ us) fine h = go (begins (this_judged us u)) refl (is_slice (item (items us) u)) refl h (is_pending (all_placed (items us))) refl (steady us fine.1)
  where
    now : IsInForce (vps_behind (item (items us) u ∷ items us)) (this_judged us u).fact.placed.item.at
    now = unfold judged judgement fact placed in inr (sym (behind_item us u))

    step : turns (item (items us) u) ≡ false → All (InForceIn (vps_behind (items us))) (sequence (hist us)) → All (InForceIn (vps_behind (item (items us) u ∷ items us))) (this_judged us u ∷ sequence (hist us))
    step plain rest =
        All-cons (InForceIn (vps_behind (item (items us) u ∷ items us))) (this_judged us u) (sequence (hist us)) now
        (All-weaker (InForceIn (vps_behind (items us))) (InForceIn (vps_behind (item (items us) u ∷ items us)))
        (λ d. later_in_force (vps_behind (items us)) (vps_behind (item (items us) u ∷ items us)) d.fact.placed.item.at
        (subst (λ new. (vps_behind (items us) ≡ None) ⊎ (new ≡ vps_behind (items us))) (sym (behind_item us u)) (unturned us u plain)))
        (sequence (hist us)) rest)

    go : (b : Bool) → begins (this_judged us u) ≡ b → (s : Bool) → is_slice (item (items us) u) ≡ s →
        list_any (λ (q : Placed). turns q.item) (cond s [] (this us u ∷ since (λ (q : Placed). is_slice q.item) (all_placed (items us)))) ≡ false →
        (w : Bool) → is_pending (all_placed (items us)) ≡ w →
        (is_pending (all_placed (items us)) ≡ false → All (InForceIn (vps_behind (items us))) (sequence (hist us))) →
        All (InForceIn (vps_behind (item (items us) u ∷ items us))) (cond b (this_judged us u ∷ []) (this_judged us u ∷ sequence (hist us)))
    go true b s slice h w waits rest = All-cons (InForceIn (vps_behind (item (items us) u ∷ items us))) (this_judged us u) [] now (All-nil (InForceIn (vps_behind (item (items us) u ∷ items us))))
    go false b false slice h w waits rest =
        let parts : (turns (item (items us) u) ≡ false) × (is_pending (all_placed (items us)) ≡ false) = or_parts (turns (item (items us) u)) (is_pending (all_placed (items us))) h in
        step parts.0 (rest parts.1)
    go false b true slice h false waits rest = step (slice_plain (item (items us) u) slice) (rest waits)
    go false b true slice h true waits rest = absurd (let wrong : true ≡ false = sym (pending_starts us u fine.0 slice waits).begins ∙ b in cc)
