-- An extract of an accepted stream is accepted: each rule holds of no kept unit.
use Rattle.std.proofs.Common.{◌≡◌, ℕ, suc, Bool, true, false, cond, not, ◌&&◌, ◌||◌, List, [], ◌∷◌, length, Option, None, Some, refl, ap, sym, subst, ◌∙◌, filter, arith}
use Rattle.std.specs.Prelude.{nat_eq, nat_le, All, option_map, is_none, is_some}
use Rattle.std.specs.List.{find, last_or, list_any}
use Rattle.std.proofs.lemmas.Bool.{eqb-true, and_parts, not-false, ne_eqb}
use Rattle.mv_syntax.specs.Words.{◌otherwise◌, is_set}
use Rattle.mv_history.specs.History.{run}
use Rattle.mv_history.proofs.Kept.{All-unmap, Keeps-from, filter_swap, find-filter, find-found, list_any-filter}
use Rattle.mv_pictures.specs.Items.{is_first_segment, is_picture, is_slice, is_vps, items, stays, turns}
use Rattle.mv_pictures.specs.AccessUnits.{Placed, all_placed, first_slice_of, has_changed_vps, in_au, is_own_picture, layer, layer_order, no_base, orphan_slice, pictures_of, slices_of, tid, tid_differs}
use Rattle.mv_pictures.specs.Facts.{Fact, fact, own_picture}
use Rattle.mv_slice.specs.Context.{SliceContextValue}
use Rattle.mv_pictures.specs.SliceRules.{address, address_order, agrees, follows, is_bad_address, segment_before, slice_differs}
use Rattle.mv_commuting.proofs.Facts.{fact_stays, all_facts, facts_placed, one_vps-here, own_picture-kept, own_stays, this}
use Rattle.mv_commuting.proofs.Closures.{find_all}
use Rattle.mv_commuting.proofs.Items.{base_stays, each, vps_stays}
use Rattle.mv_commuting.proofs.Places.{of_item}
use Rattle.mv_commuting.proofs.Steady.{AllFine, IsFine, this_fact}
use Rattle.mv_commuting.proofs.Fewer.{last-filter, none-filter}

-- ---- Rules of access units

-- the first slice segment of each access unit is of layer 0
last_none : {A : Type 0} (xs : List A) → last_or None xs ≡ None → xs ≡ []
last_none [] h = refl
last_none {A = A} (x ∷ xs) h = absurd (never x xs h)
  where
    never : (x : A) (xs : List A) → last_or (Some x) xs ≡ None → ⊥
    never x [] h = cc
    never x (y ∷ ys) h = never y ys h

first_base : (us : List (List ℕ)) → AllFine us → (n : ℕ) (q : Placed) → first_slice_of n (all_placed (items us)) ≡ Some q → nat_eq (layer q) 0 ≡ true
unfolding items run all_placed first_slice_of slices_of
first_base [] fine n q h = absurd (cc)
first_base (u ∷ us) fine n q h = go (is_slice (this us u).item && in_au n (this us u)) refl h (first_base us fine.1 n q)
  where
    base : is_slice (this us u).item && in_au n (this us u) ≡ true → slices_of n (all_placed (items us)) ≡ [] → nat_eq (layer (this us u)) 0 ≡ true
    base test none =
        let parts : (is_slice (this us u).item ≡ true) × (in_au n (this us u) ≡ true) = and_parts (is_slice (this us u).item) (in_au n (this us u)) test in
        let here : (this us u).au ≡ n = eqb-true (this us u).au n parts.1 in
        lemma (is_slice (this us u).item) (nat_eq (layer (this us u)) 0) (nat_eq (length (slices_of (this us u).au (all_placed (items us)))) 0) parts.0
        (ap (λ n. nat_eq (length (slices_of n (all_placed (items us)))) 0) here ∙ ap (λ (qs : List Placed). nat_eq (length qs) 0) none)
        (unfold no_base in fine.0.base)
      where
        lemma : (a b c : Bool) → a ≡ true → c ≡ true → (a && not b && c) ≡ false → b ≡ true
        lemma a true c p r h = refl
        lemma a false c p r h = absurd (let wrong : true ≡ false = sym (ap (λ a. a && true && c) p ∙ r) ∙ h in cc)

    pick : (qs : List Placed) → slices_of n (all_placed (items us)) ≡ qs → is_slice (this us u).item && in_au n (this us u) ≡ true → last_or (Some (this us u)) qs ≡ Some q →
        (last_or None (slices_of n (all_placed (items us))) ≡ Some q → nat_eq (layer q) 0 ≡ true) → nat_eq (layer q) 0 ≡ true
    pick [] is test h rest = let same : this us u ≡ q = cc in ap (λ q. nat_eq (layer q) 0) (sym same) ∙ base test is
    pick (r ∷ qs) is test h rest = rest (ap (last_or None) is ∙ h)

    go : (b : Bool) → (is_slice (this us u).item && in_au n (this us u)) ≡ b →
        last_or None (cond b (this us u ∷ slices_of n (all_placed (items us))) (slices_of n (all_placed (items us)))) ≡ Some q →
        (last_or None (slices_of n (all_placed (items us))) ≡ Some q → nat_eq (layer q) 0 ≡ true) → nat_eq (layer q) 0 ≡ true
    go true test h rest = pick (slices_of n (all_placed (items us))) refl test h rest
    go false test h rest = rest h

-- the first slice segment of an access unit is kept
first-kept : (o : ℕ) (us : List (List ℕ)) → AllFine us → (n : ℕ) → first_slice_of n (filter (of_item (stays o)) (all_placed (items us))) ≡ first_slice_of n (all_placed (items us))
unfolding first_slice_of slices_of
first-kept o us fine n = swap ∙ go (first_slice_of n (all_placed (items us))) refl
  where
    swap : last_or None (filter (λ (q : Placed). is_slice q.item && in_au n q) (filter (of_item (stays o)) (all_placed (items us)))) ≡ last_or None (filter (of_item (stays o)) (slices_of n (all_placed (items us))))
    swap = ap (last_or None) (filter_swap (λ (q : Placed). is_slice q.item && in_au n q) (of_item (stays o)) (all_placed (items us)))

    go : (x : Option Placed) → first_slice_of n (all_placed (items us)) ≡ x → last_or None (filter (of_item (stays o)) (slices_of n (all_placed (items us)))) ≡ last_or None (slices_of n (all_placed (items us)))
    go None is = ap (λ qs. last_or None (filter (of_item (stays o)) qs)) (last_none (slices_of n (all_placed (items us))) is) ∙ sym is
    go (Some q) is = last-filter (of_item (stays o)) None None (slices_of n (all_placed (items us))) q is (base_stays o q.item (first_base us fine n q is)) (λ h. h) ∙ sym is

no_slices : (n : ℕ) (ps : List Placed) → nat_eq (length (slices_of n ps)) 0 ≡ is_none (first_slice_of n ps)
unfolding first_slice_of
no_slices n ps = go (slices_of n ps)
  where
    some : (x : Placed) (qs : List Placed) → is_none (last_or (Some x) qs) ≡ false
    some x [] = refl
    some x (q ∷ qs) = some q qs

    go : (qs : List Placed) → nat_eq (length qs) 0 ≡ is_none (last_or None qs)
    go [] = refl
    go (q ∷ qs) = ne_eqb (suc (length qs)) 0 (λ e. omega arith) ∙ sym (some q qs)

pub no_base-kept : (o : ℕ) (us : List (List ℕ)) (p : Placed) → AllFine us → no_base (filter (of_item (stays o)) (all_placed (items us))) p ≡ no_base (all_placed (items us)) p
unfolding no_base
no_base-kept o us p fine =
    ap (λ b. is_slice p.item && not (nat_eq (layer p) 0) && b)
    (no_slices p.au (filter (of_item (stays o)) (all_placed (items us))) ∙ ap is_none (first-kept o us fine p.au) ∙ sym (no_slices p.au (all_placed (items us))))

pub tid_differs-kept : (o : ℕ) (us : List (List ℕ)) (p : Placed) → AllFine us → tid_differs (filter (of_item (stays o)) (all_placed (items us))) p ≡ tid_differs (all_placed (items us)) p
unfolding tid_differs
tid_differs-kept o us p fine =
    ap (λ first. is_picture p.item && (option_map (λ q. not (nat_eq (tid p) (tid q))) first otherwise false)) (first-kept o us fine p.au)

pub layer_order-kept : (o : ℕ) (us : List (List ℕ)) (p : Placed) → layer_order (all_placed (items us)) p ≡ false → layer_order (filter (of_item (stays o)) (all_placed (items us))) p ≡ false
unfolding layer_order pictures_of
layer_order-kept o us p h = go (is_picture p.item) refl h
  where
    go : (b : Bool) → is_picture p.item ≡ b → (b && list_any (λ q. nat_le (layer p) (layer q)) (pictures_of p.au (all_placed (items us)))) ≡ false →
        (b && list_any (λ q. nat_le (layer p) (layer q)) (filter (λ (q : Placed). is_picture q.item && in_au p.au q) (filter (of_item (stays o)) (all_placed (items us))))) ≡ false
    go false e h = refl
    go true e h =
        ap (list_any (λ q. nat_le (layer p) (layer q))) (filter_swap (λ (q : Placed). is_picture q.item && in_au p.au q) (of_item (stays o)) (all_placed (items us)))
        ∙ none-filter (λ q. nat_le (layer p) (layer q)) (of_item (stays o)) (pictures_of p.au (all_placed (items us))) h

pub changed-kept : (o : ℕ) (us : List (List ℕ)) (p : Placed) → has_changed_vps (filter (of_item (stays o)) (all_placed (items us))) p ≡ has_changed_vps (all_placed (items us)) p
unfolding has_changed_vps turns
changed-kept o us p =
    list_any-filter (λ (q : Placed). turns q.item && in_au p.au q) (of_item (stays o)) (all_placed (items us))
    (each (λ q. (turns q.item && in_au p.au q) ≡ true → of_item (stays o) q ≡ true)
    (λ q h. vps_stays o q.item (and_parts (is_vps q.item) _ (and_parts (turns q.item) (in_au p.au q) h).0).0) (all_placed (items us)))

-- ---- The picture of a later segment, and the segment before it

pub orphan-kept : (o : ℕ) (us : List (List ℕ)) (u : List ℕ) → stays o (this us u).item ≡ true → orphan_slice (all_placed (items us)) (this us u) ≡ false →
    orphan_slice (filter (of_item (stays o)) (all_placed (items us))) (this us u) ≡ false
unfolding orphan_slice stays is_own_picture
orphan-kept o us u kept h = go (is_slice (this us u).item && not (is_picture (this us u).item)) refl (find (λ (q : Placed). is_picture q.item) (all_placed (items us))) refl h
  where
    go : (b : Bool) → (is_slice (this us u).item && not (is_picture (this us u).item)) ≡ b → (x : Option Placed) → find (λ (q : Placed). is_picture q.item) (all_placed (items us)) ≡ x →
        (b && not (option_map (is_own_picture (this us u)) (find (λ (q : Placed). is_picture q.item) (all_placed (items us))) otherwise false)) ≡ false →
        (b && not (option_map (is_own_picture (this us u)) (find (λ (q : Placed). is_picture q.item) (filter (of_item (stays o)) (all_placed (items us)))) otherwise false)) ≡ false
    go false e x is h = refl
    go true e None is h = absurd (let wrong : true ≡ false = sym (ap (λ x. not (option_map (is_own_picture (this us u)) x otherwise false)) is) ∙ h in cc)
    go true e (Some q) is h =
        let own : is_own_picture (this us u) q ≡ true = not-false (is_own_picture (this us u) q) (sym (ap (λ x. not (option_map (is_own_picture (this us u)) x otherwise false)) is) ∙ h) in
        let there = find_all (λ (q : Placed). is_slice q.item ≡ true → q.au ≡ (this us u).au → q.item.at ≡ (this us u).item.at) (λ (q : Placed). is_picture q.item) (all_placed (items us)) q (one_vps-here us u) is in
        let same : q.item.at ≡ (this us u).item.at = there.0 (and_parts (is_slice q.item) (is_first_segment q.item.opening) there.1).0
        (eqb-true q.au (this us u).au (and_parts (nat_eq (layer q) (layer (this us u))) (in_au (this us u).au q) own).1) in
        ap (λ x. not (option_map (is_own_picture (this us u)) x otherwise false))
        (find-found (λ (q : Placed). is_picture q.item) (of_item (stays o)) (all_placed (items us)) q is (own_stays o (this us u) q kept own same))
        ∙ ap not own

segment-kept : (o : ℕ) (us : List (List ℕ)) (u : List ℕ) → stays o (this us u).item ≡ true →
    segment_before (filter (fact_stays o) (all_facts us)) (this_fact us u) ≡ segment_before (all_facts us) (this_fact us u)
unfolding segment_before is_own_picture fact stays
segment-kept o us u kept =
    find-filter (λ (f : Fact). is_slice f.placed.item && is_own_picture (this us u) f.placed) (fact_stays o) (all_facts us)
    (Keeps-from (λ (f : Fact). is_slice f.placed.item ≡ true → f.placed.au ≡ (this us u).au → f.placed.item.at ≡ (this us u).item.at) (λ (f : Fact). is_slice f.placed.item && is_own_picture (this us u) f.placed) (fact_stays o) (all_facts us)
    (λ f is test.
    let parts : (is_slice f.placed.item ≡ true) × (is_own_picture (this us u) f.placed ≡ true) = and_parts (is_slice f.placed.item) (is_own_picture (this us u) f.placed) test in
    own_stays o (this us u) f.placed kept parts.1 (is parts.0 (eqb-true f.placed.au (this us u).au (and_parts (nat_eq (layer f.placed) (layer (this us u))) (in_au (this us u).au f.placed) parts.1).1)))
    (All-unmap (λ (q : Placed). is_slice q.item ≡ true → q.au ≡ (this us u).au → q.item.at ≡ (this us u).item.at) (λ (f : Fact). f.placed) (all_facts us)
    (subst (All (λ (q : Placed). is_slice q.item ≡ true → q.au ≡ (this us u).au → q.item.at ≡ (this us u).item.at)) (sym (facts_placed us)) (one_vps-here us u))))

pub slice_differs-kept : (o : ℕ) (us : List (List ℕ)) (u : List ℕ) → IsFine us u → stays o (this us u).item ≡ true →
    slice_differs (filter (fact_stays o) (all_facts us)) (this_fact us u) ≡ slice_differs (all_facts us) (this_fact us u)
unfolding slice_differs fact
slice_differs-kept o us u fine kept = go (is_slice (this us u).item) refl
  where
    go : (b : Bool) → is_slice (this us u).item ≡ b →
        (b && (option_map (λ first. not (agrees (this_fact us u) first)) (own_picture (filter (fact_stays o) (all_facts us)) (this us u)) otherwise false))
        ≡ (b && (option_map (λ first. not (agrees (this_fact us u) first)) (own_picture (all_facts us) (this us u)) otherwise false))
    go false e = refl
    go true e = ap (λ own. option_map (λ first. not (agrees (this_fact us u) first)) own otherwise false) (own_picture-kept o us u kept e fine.own)

pub address_order-kept : (o : ℕ) (us : List (List ℕ)) (u : List ℕ) → IsFine us u → stays o (this us u).item ≡ true →
    address_order (filter (fact_stays o) (all_facts us)) (this_fact us u) ≡ address_order (all_facts us) (this_fact us u)
unfolding address_order is_bad_address fact
address_order-kept o us u fine kept = go (is_slice (this us u).item) refl
  where
    bad : Option Fact → SliceContextValue → Bool
    bad before ctx =
        nat_eq (address (this_fact us u)) 0 || nat_le ctx.ctbs (address (this_fact us u))
        || (not (is_set ctx.tiles_enabled_flag) && not (option_map (follows (this_fact us u)) before otherwise true))

    go : (b : Bool) → is_slice (this us u).item ≡ b →
        (b && is_some (own_picture (filter (fact_stays o) (all_facts us)) (this us u)) && (option_map (bad (segment_before (filter (fact_stays o) (all_facts us)) (this_fact us u))) (this_fact us u).context otherwise false))
        ≡ (b && is_some (own_picture (all_facts us) (this us u)) && (option_map (bad (segment_before (all_facts us) (this_fact us u))) (this_fact us u).context otherwise false))
    go false e = refl
    go true e =
        ap (λ own. true && is_some own && (option_map (bad (segment_before (filter (fact_stays o) (all_facts us)) (this_fact us u))) (this_fact us u).context otherwise false)) (own_picture-kept o us u kept e fine.own)
        ∙ ap (λ before. true && is_some (own_picture (all_facts us) (this us u)) && (option_map (bad before) (this_fact us u).context otherwise false)) (segment-kept o us u kept)
