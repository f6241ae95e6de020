-- A picture's name names one; and the video parameter set of a sequence is in force at its slice segments.
use Rattle.std.proofs.Common.{◌≡◌, ◌⊎◌, inl, inr, ℕ, Bool, true, false, cond, not, ◌&&◌, ◌||◌, List, [], ◌∷◌, length, Option, None, Some, refl, ap, sym, subst, ◌∙◌, map}
use Rattle.std.specs.Prelude.{nat_eq, nat_lt, All, option_and_then, option_map, is_none}
use Rattle.std.specs.List.{find, list_any}
use Rattle.std.proofs.lemmas.Bool.{and_from, and_parts, not-false, or_left, or_parts, or_right}
use Rattle.std.proofs.lemmas.List.Elements.{All-cons, All-head, All-nil, All-tail}
use Rattle.mv_syntax.specs.Words.{◌otherwise◌}
use Rattle.mv_history.specs.History.{Throughout, run}
use Rattle.mv_history.proofs.Kept.{All-unmap}
use Rattle.mv_pictures.specs.Kinds.{is_pps_kind, is_slice_kind, is_sps_kind}
use Rattle.mv_pictures.specs.Items.{Item, is_first_segment, is_known, is_picture as item_picture, is_slice as item_slice, items}
use Rattle.mv_pictures.specs.AccessUnits.{Placed, all_placed, is_own_picture, layer as placed_layer, no_base, orphan_slice, placed, slices_of}
use Rattle.mv_pictures.specs.AccessUnits as units
use Rattle.mv_pictures.specs.Facts.{fact, facts}
use Rattle.mv_pictures.specs.Judged.{Judged, begins, is_base, is_end, is_picture, is_slice, of_layer, vps_at}
use Rattle.mv_pictures.specs.Look.{asked, look}
use Rattle.mv_pictures.specs.Starts.{is_anew, is_idr_or_bla, is_sequence_start, sequence_vps}
use Rattle.mv_pictures.specs.UnitRules.{needs_vps, no_vps}
use Rattle.mv_pictures.specs.History.{history, judged, judgement}
use Rattle.mv_commuting.proofs.Closures.{find_all}
use Rattle.mv_commuting.proofs.Facts.{this}
use Rattle.mv_commuting.specs.Kept.{IsOtherPicture}
use Rattle.mv_commuting.proofs.More.{order_none}
use Rattle.mv_commuting.proofs.Shown.{asked_root, placed_of_hist, seated}
use Rattle.mv_commuting.proofs.Steady.{AllFine, IsFine, hist, judged_seq, no_own, this_fact, this_judged}

-- ---- Names

pub names-one : (us : List (List ℕ)) → AllFine us → Throughout (λ past d. is_picture d.fact ≡ true → All (IsOtherPicture d) past) (hist us)
unfolding items run all_placed facts history
names-one [] fine = tt
names-one (u ∷ us) fine = (now, names-one us fine.1)
  where
    now : is_picture (this_judged us u).fact ≡ true → All (IsOtherPicture (this_judged us u)) (hist us)
    now = unfold judged judgement fact in λ picture.
        All-unmap (λ (q : Placed). item_picture q.item ≡ true → placed_layer q ≡ placed_layer (this us u) → q.au ≡ (this us u).au → ⊥) (λ (d : Judged). d.fact.placed) (hist us)
        (subst (All (λ (q : Placed). item_picture q.item ≡ true → placed_layer q ≡ placed_layer (this us u) → q.au ≡ (this us u).au → ⊥)) (sym (placed_of_hist us))
        (order_none (this us u) (all_placed (items us)) picture fine.0.order))

-- ---- The first slice segment

pub is_base_picture : Judged → Bool
is_base_picture d = of_layer 0 d && is_picture d.fact

no_slices_of : (n : ℕ) (ps : List Placed) → list_any (λ (q : Placed). item_slice q.item) ps ≡ false → slices_of n ps ≡ []
unfolding slices_of
no_slices_of n [] h = refl
no_slices_of n (p ∷ ps) h =
    let parts : (item_slice p.item ≡ false) × (list_any (λ (q : Placed). item_slice q.item) ps ≡ false) = or_parts (item_slice p.item) (list_any (λ (q : Placed). item_slice q.item) ps) h in
    ap (λ s. cond (s && units.in_au n p) (p ∷ slices_of n ps) (slices_of n ps)) parts.0 ∙ no_slices_of n ps parts.1

any_slice : (us : List (List ℕ)) → list_any (λ (d : Judged). is_slice d.fact) (hist us) ≡ list_any (λ (q : Placed). item_slice q.item) (all_placed (items us))
any_slice us = list_any-map (λ (d : Judged). d.fact.placed) (λ (q : Placed). item_slice q.item) (hist us) ∙ ap (list_any (λ (q : Placed). item_slice q.item)) (placed_of_hist us)
  where
    list_any-map : {A B : Type 0} (f : A → B) (test : B → Bool) (xs : List A) → list_any (λ x. test (f x)) xs ≡ list_any test (map f xs)
    list_any-map f test [] = refl
    list_any-map f test (x ∷ xs) = ap (λ b. test (f x) || b) (list_any-map f test xs)

-- the first slice segment of all is of a base picture
first_picture : (us : List (List ℕ)) (u : List ℕ) → IsFine us u → item_slice (this us u).item ≡ true → list_any (λ (d : Judged). is_slice d.fact) (hist us) ≡ false →
    (nat_eq (this us u).item.head.layer 0 ≡ true) × (item_picture (this us u).item ≡ true)
unfolding no_base orphan_slice
first_picture us u fine slice quiet = (base, picture (item_picture (this us u).item) refl)
  where
    none : slices_of (this us u).au (all_placed (items us)) ≡ []
    none = no_slices_of (this us u).au (all_placed (items us)) (sym (any_slice us) ∙ quiet)

    lemma : (a b c : Bool) → a ≡ true → c ≡ true → (a && not b && c) ≡ false → b ≡ true
    lemma a true c p r h = refl
    lemma a false c p r h = absurd (let wrong : true ≡ false = sym (ap (λ a. a && true && c) p ∙ r) ∙ h in cc)

    base : nat_eq (this us u).item.head.layer 0 ≡ true
    base = lemma (item_slice (this us u).item) (nat_eq (this us u).item.head.layer 0) (nat_eq (length (slices_of (this us u).au (all_placed (items us)))) 0) slice (ap (λ (qs : List Placed). nat_eq (length qs) 0) none) fine.base

    picture : (b : Bool) → item_picture (this us u).item ≡ b → b ≡ true
    picture true e = refl
    picture false e = absurd (no_own (this us u).au (this us u) (all_placed (items us)) none refl
        (not-false (option_map (is_own_picture (this us u)) (find (λ (q : Placed). item_picture q.item) (all_placed (items us))) otherwise false)
        (sym (ap (λ a. a && not (item_picture (this us u).item) && not (option_map (is_own_picture (this us u)) (find (λ (q : Placed). item_picture q.item) (all_placed (items us))) otherwise false)) slice
        ∙ ap (λ b. true && not b && not (option_map (is_own_picture (this us u)) (find (λ (q : Placed). item_picture q.item) (all_placed (items us))) otherwise false)) e) ∙ fine.own)))

some_base : (us : List (List ℕ)) → AllFine us → list_any (λ (d : Judged). is_slice d.fact) (hist us) ≡ true → list_any is_base_picture (hist us) ≡ true
unfolding items run all_placed facts history is_base_picture
some_base [] fine h = absurd (let wrong : true ≡ false = sym h in cc)
some_base (u ∷ us) fine h = go (list_any (λ (d : Judged). is_slice d.fact) (hist us)) refl (item_slice (this us u).item) refl (some_base us fine.1)
  where
    now : is_slice (this_judged us u).fact ≡ item_slice (this us u).item
    now = unfold judged judgement fact in refl

    go : (b : Bool) → list_any (λ (d : Judged). is_slice d.fact) (hist us) ≡ b → (s : Bool) → item_slice (this us u).item ≡ s →
        (list_any (λ (d : Judged). is_slice d.fact) (hist us) ≡ true → list_any is_base_picture (hist us) ≡ true) →
        ((of_layer 0 (this_judged us u) && is_picture (this_judged us u).fact) || list_any is_base_picture (hist us)) ≡ true
    go true e s slice rest = or_right (of_layer 0 (this_judged us u) && is_picture (this_judged us u).fact) (list_any is_base_picture (hist us)) (rest e)
    go false e true slice rest =
        let parts = first_picture us u fine.0 slice e in
        or_left (of_layer 0 (this_judged us u) && is_picture (this_judged us u).fact) (list_any is_base_picture (hist us))
        (unfold judged judgement fact in and_from (nat_eq (this us u).item.head.layer 0) (item_picture (this us u).item) parts.0 parts.1)
    go false e false slice rest = absurd (let wrong : true ≡ false = sym h ∙ ap (λ b. b || list_any (λ (d : Judged). is_slice d.fact) (hist us)) (now ∙ slice) ∙ e in cc)

-- ---- Sequences

-- a base picture that starts no sequence has a base picture before it
pub starts_first : (us : List (List ℕ)) (u : List ℕ) → nat_eq (this us u).item.head.layer 0 ≡ true → item_picture (this us u).item ≡ true → list_any is_base_picture (hist us) ≡ false →
    is_sequence_start (look (asked (hist us) (this_fact us u)) (this_fact us u)) (this_fact us u) ≡ true
unfolding is_sequence_start is_anew look asked fact is_base_picture
starts_first us u base picture quiet =
    and_from (is_base (this_fact us u)) _ (and_from (nat_eq (this us u).item.head.layer 0) (item_picture (this us u).item) base picture)
    (or_right (is_idr_or_bla (this_fact us u)) _ (anew (item_slice (this us u).item) refl))
  where
    border : (x : Option Judged) → find (λ d. of_layer 0 d && (is_picture d.fact || is_end d.fact)) (hist us) ≡ x → (option_map (λ (d : Judged). is_end d.fact) x otherwise true) ≡ true
    border None is = refl
    border (Some e) is = last (is_picture e.fact) refl (and_parts (of_layer 0 e) (is_picture e.fact || is_end e.fact) there.1)
      where
        there : (is_base_picture e ≡ false) × ((of_layer 0 e && (is_picture e.fact || is_end e.fact)) ≡ true)
        there = find_all (λ (e : Judged). is_base_picture e ≡ false) (λ d. of_layer 0 d && (is_picture d.fact || is_end d.fact)) (hist us) e (none_all (hist us) quiet) is
          where
            none_all : (ds : List Judged) → list_any is_base_picture ds ≡ false → All (λ (e : Judged). is_base_picture e ≡ false) ds
            none_all [] h = All-nil (λ (e : Judged). is_base_picture e ≡ false)
            none_all (d ∷ ds) h =
                let parts : (is_base_picture d ≡ false) × (list_any is_base_picture ds ≡ false) = or_parts (is_base_picture d) (list_any is_base_picture ds) h in
                All-cons (λ (e : Judged). is_base_picture e ≡ false) d ds parts.0 (none_all ds parts.1)

        last : (p : Bool) → is_picture e.fact ≡ p → (of_layer 0 e ≡ true) × ((is_picture e.fact || is_end e.fact) ≡ true) → is_end e.fact ≡ true
        last true pic parts = absurd (let wrong : true ≡ false = sym (and_from (of_layer 0 e) (is_picture e.fact) parts.0 pic) ∙ there.0 in cc)
        last false pic parts = sym (ap (λ b. b || is_end e.fact) pic) ∙ parts.1

    anew : (s : Bool) → item_slice (this us u).item ≡ s → (option_map (λ (d : Judged). is_end d.fact) (find (λ d. of_layer 0 d && (is_picture d.fact || is_end d.fact)) (cond (item_slice (this us u).item) (hist us) [])) otherwise true) ≡ true
    anew true e = ap (λ b. option_map (λ (d : Judged). is_end d.fact) (find (λ d. of_layer 0 d && (is_picture d.fact || is_end d.fact)) (cond b (hist us) [])) otherwise true) e ∙ border (find (λ d. of_layer 0 d && (is_picture d.fact || is_end d.fact)) (hist us)) refl
    anew false e = ap (λ b. option_map (λ (d : Judged). is_end d.fact) (find (λ d. of_layer 0 d && (is_picture d.fact || is_end d.fact)) (cond b (hist us) [])) otherwise true) e

this_layer : (us : List (List ℕ)) (u : List ℕ) → of_layer 0 (this_judged us u) ≡ nat_eq (this us u).item.head.layer 0
unfolding judged judgement fact
this_layer us u = refl

this_picture : (us : List (List ℕ)) (u : List ℕ) → is_picture (this_judged us u).fact ≡ item_picture (this us u).item
unfolding judged judgement fact
this_picture us u = refl

this_vps : (us : List (List ℕ)) (u : List ℕ) → vps_at (this_judged us u).fact ≡ (this us u).item.at
unfolding judged judgement fact
this_vps us u = refl

-- where there is a base picture a sequence has been started
pub some_start : (us : List (List ℕ)) → list_any is_base_picture (hist us) ≡ true → list_any begins (hist us) ≡ true
unfolding items run all_placed facts history is_base_picture
some_start [] h = h
some_start (u ∷ us) h = go (list_any is_base_picture (hist us)) refl (some_start us)
  where
    go : (b : Bool) → list_any is_base_picture (hist us) ≡ b → (list_any is_base_picture (hist us) ≡ true → list_any begins (hist us) ≡ true) → (begins (this_judged us u) || list_any begins (hist us)) ≡ true
    go true e rest = or_right (begins (this_judged us u)) (list_any begins (hist us)) (rest e)
    go false e rest =
        let here : is_base_picture (this_judged us u) ≡ true = only (is_base_picture (this_judged us u)) (list_any is_base_picture (hist us)) e h in
        let parts : (of_layer 0 (this_judged us u) ≡ true) × (is_picture (this_judged us u).fact ≡ true) = and_parts (of_layer 0 (this_judged us u)) (is_picture (this_judged us u).fact) here in
        or_left (begins (this_judged us u)) (list_any begins (hist us))
        (and_from (of_layer 0 (this_judged us u)) (this_judged us u).seq parts.0
        (judged_seq us u ∙ starts_first us u (sym (this_layer us u) ∙ parts.0) (sym (this_picture us u) ∙ parts.1) e))
      where
        only : (a b : Bool) → b ≡ false → (a || b) ≡ true → a ≡ true
        only true b e h = refl
        only false b e h = sym (sym h ∙ e)

-- a slice segment has a video parameter set
some_vps : (i : Item) → no_vps i ≡ false → item_slice i ≡ true → is_none i.at ≡ false
unfolding no_vps
some_vps i h slice = go (is_none i.at) (or_parts (is_none i.at && needs_vps i) _ h).0
  where
    needs : needs_vps i ≡ true
    needs = or_left (is_sps_kind i.head.kind || is_pps_kind i.head.kind || is_slice_kind i.head.kind) (nat_lt 0 i.head.layer)
        (or_right (is_sps_kind i.head.kind || is_pps_kind i.head.kind) (is_slice_kind i.head.kind) (and_parts (is_known i) (is_slice_kind i.head.kind) slice).1)

    go : (b : Bool) → (b && needs_vps i) ≡ false → b ≡ false
    go true h = absurd (let wrong : true ≡ false = sym needs ∙ h in cc)
    go false h = refl

start_slice : (us : List (List ℕ)) (u : List ℕ) → is_sequence_start (look (asked (hist us) (this_fact us u)) (this_fact us u)) (this_fact us u) ≡ true → item_slice (this us u).item ≡ true
unfolding is_sequence_start fact
start_slice us u h =
    (and_parts (item_slice (this us u).item) (is_first_segment (this us u).item.opening) (and_parts (nat_eq (this us u).item.head.layer 0) (item_picture (this us u).item) (and_parts (is_base (this_fact us u)) _ h).0).1).0

starts_have_vps : (us : List (List ℕ)) → AllFine us → All (λ (d : Judged). begins d ≡ true → is_none (vps_at d.fact) ≡ false) (hist us)
unfolding items run all_placed facts history
starts_have_vps [] fine = All-nil (λ (d : Judged). begins d ≡ true → is_none (vps_at d.fact) ≡ false)
starts_have_vps (u ∷ us) fine =
    All-cons (λ (d : Judged). begins d ≡ true → is_none (vps_at d.fact) ≡ false) (this_judged us u) (hist us)
    (λ h. ap is_none (this_vps us u) ∙ some_vps (this us u).item fine.0.vps (start_slice us u (sym (judged_seq us u) ∙ (and_parts (of_layer 0 (this_judged us u)) (this_judged us u).seq h).1)))
    (starts_have_vps us fine.1)

-- a slice segment that starts no sequence has a sequence's start before it
some_root : (us : List (List ℕ)) (u : List ℕ) → AllFine us → IsFine us u → item_slice (this us u).item ≡ true →
    is_sequence_start (look (asked (hist us) (this_fact us u)) (this_fact us u)) (this_fact us u) ≡ false → list_any begins (hist us) ≡ true
some_root us u fine here slice not_start = go (list_any (λ (d : Judged). is_slice d.fact) (hist us)) refl (list_any is_base_picture (hist us)) refl
  where
    go : (s : Bool) → list_any (λ (d : Judged). is_slice d.fact) (hist us) ≡ s → (b : Bool) → list_any is_base_picture (hist us) ≡ b → list_any begins (hist us) ≡ true
    go s e true f = some_start us f
    go true e false f = absurd (let wrong : true ≡ false = sym (some_base us fine e) ∙ f in cc)
    go false e false f =
        let parts = first_picture us u here slice e in
        absurd (let wrong : true ≡ false = sym (starts_first us u parts.0 parts.1 f) ∙ not_start in cc)

root_vps : (ds : List Judged) → All (λ (d : Judged). begins d ≡ true → is_none (vps_at d.fact) ≡ false) ds → list_any begins ds ≡ true → is_none (option_and_then (λ (d : Judged). vps_at d.fact) (find begins ds)) ≡ false
root_vps [] all h = absurd (let wrong : true ≡ false = sym h in cc)
root_vps (d ∷ ds) all h = go (begins d) refl h (root_vps ds (All-tail (λ (d : Judged). begins d ≡ true → is_none (vps_at d.fact) ≡ false) d ds all))
  where
    go : (b : Bool) → begins d ≡ b → (b || list_any begins ds) ≡ true → (list_any begins ds ≡ true → is_none (option_and_then (λ (d : Judged). vps_at d.fact) (find begins ds)) ≡ false) →
        is_none (option_and_then (λ (d : Judged). vps_at d.fact) (cond b (Some d) (find begins ds))) ≡ false
    go true e h rest = All-head (λ (d : Judged). begins d ≡ true → is_none (vps_at d.fact) ≡ false) d ds all e
    go false e h rest = rest h

seq_vps-is : (us : List (List ℕ)) (u : List ℕ) → (this_judged us u).seq_vps ≡ sequence_vps (look (asked (hist us) (this_fact us u)) (this_fact us u)) (this_fact us u)
unfolding judged judgement
seq_vps-is us u = refl

has_seat : (us : List (List ℕ)) (u : List ℕ) → AllFine us → IsFine us u → item_slice (this us u).item ≡ true → is_none (this_judged us u).seq_vps ≡ false
unfolding sequence_vps
has_seat us u fine here slice = ap is_none (seq_vps-is us u) ∙ go (is_sequence_start (look (asked (hist us) (this_fact us u)) (this_fact us u)) (this_fact us u)) refl
  where
    slice_fact : is_slice (this_fact us u) ≡ true
    slice_fact = unfold fact in slice

    go : (b : Bool) → is_sequence_start (look (asked (hist us) (this_fact us u)) (this_fact us u)) (this_fact us u) ≡ b →
        is_none (cond b (vps_at (this_fact us u)) (option_and_then (λ (d : Judged). vps_at d.fact) (look (asked (hist us) (this_fact us u)) (this_fact us u)).root)) ≡ false
    go true e = unfold fact in some_vps (this us u).item here.vps slice
    go false e =
        ap (λ x. is_none (option_and_then (λ (d : Judged). vps_at d.fact) x)) (asked_root (hist us) (this_fact us u) slice_fact)
        ∙ root_vps (hist us) (starts_have_vps us fine) (some_root us u fine here slice e)

pub seated-all : (us : List (List ℕ)) → AllFine us → All (λ (d : Judged). is_slice d.fact ≡ true → d.seq_vps ≡ vps_at d.fact) (hist us)
unfolding items run all_placed facts history
seated-all [] fine = All-nil (λ (d : Judged). is_slice d.fact ≡ true → d.seq_vps ≡ vps_at d.fact)
seated-all (u ∷ us) fine =
    All-cons (λ (d : Judged). is_slice d.fact ≡ true → d.seq_vps ≡ vps_at d.fact) (this_judged us u) (hist us)
    (λ slice. go (All-head (λ (d : Judged). is_slice d.fact ≡ true → (d.seq_vps ≡ None) ⊎ (d.seq_vps ≡ vps_at d.fact)) (this_judged us u) (hist us) (seated (u ∷ us) fine) slice) slice)
    (seated-all us fine.1)
  where
    here : is_slice (this_judged us u).fact ≡ item_slice (this us u).item
    here = unfold judged judgement fact in refl

    go : ((this_judged us u).seq_vps ≡ None) ⊎ ((this_judged us u).seq_vps ≡ vps_at (this_judged us u).fact) → is_slice (this_judged us u).fact ≡ true → (this_judged us u).seq_vps ≡ vps_at (this_judged us u).fact
    go (inr same) slice = same
    go (inl none) slice = absurd (let wrong : true ≡ false = sym (ap is_none none) ∙ has_seat us u fine.1 fine.0 (sym here ∙ slice) in cc)
