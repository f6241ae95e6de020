-- What is held of the units of a sequence is what is held of all units: behind the start of a layer nothing earlier is held.
use Rattle.std.proofs.Common.{◌≡◌, ◌⊎◌, inl, inr, ℕ, Bool, true, false, cond, not, ◌&&◌, ◌||◌, List, [], ◌∷◌, refl, ap, sym, ◌∙◌, filter, if◌then◌else◌}
use Rattle.std.specs.Prelude.{nat_eq, All}
use Rattle.std.specs.List.{list_all, list_any}
use Rattle.std.proofs.lemmas.Bool.{and_from, and_parts, and_right, or_cases, or_left, or_right}
use Rattle.std.proofs.lemmas.List.Elements.{All-cons, All-head, All-nil, All-tail}
use Rattle.mv_layers.specs.OutputLayers.{is_among}
use Rattle.mv_history.specs.History.{from, run}
use Rattle.mv_pictures.specs.AccessUnits.{all_placed}
use Rattle.mv_pictures.specs.Items.{items}
use Rattle.mv_pictures.specs.Facts.{Fact, facts}
use Rattle.mv_pictures.specs.Judged.{Judged, au, begins, is_base, is_picture, kind, layer, of_layer, resets, starts}
use Rattle.mv_pictures.specs.Look.{Look, asked, in_sequence, initialised, look, sequence}
use Rattle.mv_pictures.specs.Starts.{follows_start, is_anew, is_decoded, is_idr_or_bla, is_reset, is_sequence_start, is_skipped, is_start, starts_layer}
use Rattle.mv_pictures.specs.Kinds.{is_rasl}
use Rattle.mv_pictures.specs.Held.{Held, held_behind, marks, spares}
use Rattle.mv_pictures.specs.History.{history, judged, judgement}
use Rattle.mv_commuting.proofs.More.{initialised-more}
use Rattle.mv_commuting.proofs.Steady.{hist, this_fact, this_judged}

-- a start is decoded
not_skipped : (s r : Bool) → s ≡ true → not (not s && r) ≡ true
not_skipped true r h = refl
not_skipped false r h = absurd (let wrong : false ≡ true = h in cc)

pub start_picture : (l : Look) (p : Fact) → is_start l p ≡ true → is_picture p ≡ true
unfolding is_start is_sequence_start
start_picture l p h = go (nat_eq (layer p) 0) h
  where
    go : (b : Bool) → cond b (is_base p && (is_idr_or_bla p || is_anew l)) (is_picture p && starts_layer l p) ≡ true → is_picture p ≡ true
    go true h = (and_parts (nat_eq (layer p) 0) (is_picture p) (and_parts (is_base p) (is_idr_or_bla p || is_anew l) h).0).1
    go false h = (and_parts (is_picture p) (starts_layer l p) h).0

pub start_decoded : (l : Look) (p : Fact) → is_start l p ≡ true → is_decoded l p ≡ true
unfolding is_decoded is_skipped
start_decoded l p h =
    and_from (is_picture p) (not (is_skipped l p)) (start_picture l p h)
    (not_skipped (is_start l p) (not l.here || is_reset l p || (is_rasl (kind p) && follows_start l)) h)

pub starts_decoded : (us : List (List ℕ)) → All (λ (d : Judged). d.start ≡ true → d.decoded ≡ true) (hist us)
unfolding items run all_placed facts history
starts_decoded [] = All-nil (λ (d : Judged). d.start ≡ true → d.decoded ≡ true)
starts_decoded (u ∷ us) = All-cons (λ (d : Judged). d.start ≡ true → d.decoded ≡ true) (this_judged us u) (hist us)
    (unfold judged judgement in start_decoded (look (asked (hist us) (this_fact us u)) (this_fact us u)) (this_fact us u)) (starts_decoded us)

-- a start among later units lets nothing be held
pub clears : Judged → Bool
clears d = d.decoded && d.start

cleared : (d : Judged) (behind : List Judged) → list_any clears behind ≡ true → list_all (spares d) behind ≡ false
unfolding clears
cleared d [] h = sym h
cleared d (k ∷ ks) h = go (k.decoded) (k.start) refl refl h (cleared d ks)
  where
    go : (a b : Bool) → k.decoded ≡ a → k.start ≡ b → ((a && b) || list_any clears ks) ≡ true → (list_any clears ks ≡ true → list_all (spares d) ks ≡ false) →
        ((not a || (not b && is_among k.names (au d.fact))) && list_all (spares d) ks) ≡ false
    go true true e f h rest = refl
    go true false e f h rest = and_right (is_among k.names (au d.fact)) (list_all (spares d) ks) (rest h)
    go false b e f h rest = rest h

pub held_none : (behind xs : List Judged) → list_any clears behind ≡ true → held_behind behind xs ≡ []
unfolding held_behind
held_none behind [] h = refl
held_none behind (d ∷ ds) h =
    ap (λ b. cond b (record { it = d; long = list_any (marks d) behind } ∷ held_behind (d ∷ behind) ds) (held_behind (d ∷ behind) ds))
    (and_right d.decoded (list_all (spares d) behind) (cleared d behind h))
    ∙ held_none (d ∷ behind) ds (or_right (clears d) (list_any clears behind) h)

-- a decoded start, alone behind
pub start_clears : (d : Judged) → d.decoded ≡ true → d.start ≡ true → list_any clears (d ∷ []) ≡ true
unfolding clears
start_clears d decoded start = ap (λ b. b || false) (and_from d.decoded d.start decoded start)

starts_clears : (n : ℕ) (d : Judged) → (d.start ≡ true → d.decoded ≡ true) → starts n d ≡ true → clears d ≡ true
unfolding clears
starts_clears n d h s = let start : d.start ≡ true = (and_parts (of_layer n d) d.start s).1 in and_from d.decoded d.start (h start) start

held_same : (n : ℕ) (behind past : List Judged) → All (λ (d : Judged). d.start ≡ true → d.decoded ≡ true) past → (initialised past n || list_any clears behind) ≡ true →
    held_behind behind (filter (of_layer n) (from begins past)) ≡ held_behind behind (filter (of_layer n) past)
unfolding from held_behind
held_same n behind [] all h = refl
held_same n behind (d ∷ past) all h = go (begins d) refl (of_layer n d) refl (or_cases (initialised (d ∷ past) n) (list_any clears behind) h)
    (λ more. held_same n (d ∷ behind) past rest more) (λ more. held_same n behind past rest more)
  where
    rest : All (λ (d : Judged). d.start ≡ true → d.decoded ≡ true) past
    rest = All-tail (λ (d : Judged). d.start ≡ true → d.decoded ≡ true) d past all

    start : d.start ≡ true → d.decoded ≡ true
    start = All-head (λ (d : Judged). d.start ≡ true → d.decoded ≡ true) d past all

    one : List Held → List Held
    one hs = if d.decoded && list_all (spares d) behind then record { it = d; long = list_any (marks d) behind } ∷ hs else hs

    -- a unit that starts the layer, or one behind which the layer is initialised
    begun : (initialised (d ∷ past) n ≡ true) → (starts n d ≡ true) ⊎ ((begins d ≡ false) × (initialised past n ≡ true))
    begun is = cases (starts n d) refl (resets n d) refl (begins d) refl (sym (initialised-more d past n) ∙ is)
      where
        cases : (s : Bool) → starts n d ≡ s → (r : Bool) → resets n d ≡ r → (b : Bool) → begins d ≡ b → cond s true (cond r false (initialised past n)) ≡ true →
            (starts n d ≡ true) ⊎ ((begins d ≡ false) × (initialised past n ≡ true))
        cases true s r rs b bs is = inl s
        cases false s true rs b bs is = absurd (let wrong : true ≡ false = sym is in cc)
        cases false s false rs false bs is = inr (bs, is)
        cases false s false rs true bs is = absurd (let wrong : true ≡ false = sym (or_left (begins d) (of_layer n d && d.reset) bs) ∙ rs in cc)

    go : (b : Bool) → begins d ≡ b → (o : Bool) → of_layer n d ≡ o → (initialised (d ∷ past) n ≡ true) ⊎ (list_any clears behind ≡ true) →
        ((initialised past n || list_any clears (d ∷ behind)) ≡ true → held_behind (d ∷ behind) (filter (of_layer n) (from begins past)) ≡ held_behind (d ∷ behind) (filter (of_layer n) past)) →
        ((initialised past n || list_any clears behind) ≡ true → held_behind behind (filter (of_layer n) (from begins past)) ≡ held_behind behind (filter (of_layer n) past)) →
        held_behind behind (filter (of_layer n) (cond b (d ∷ []) (d ∷ from begins past))) ≡ held_behind behind (cond o (d ∷ filter (of_layer n) past) (filter (of_layer n) past))
    go true bs true os why within skip =
        ap (λ o. held_behind behind (cond o (d ∷ []) [])) os ∙ ap one (sym (held_none (d ∷ behind) (filter (of_layer n) past) (now why)))
      where
        now : (initialised (d ∷ past) n ≡ true) ⊎ (list_any clears behind ≡ true) → list_any clears (d ∷ behind) ≡ true
        now (inr k) = or_right (clears d) (list_any clears behind) k
        now (inl is) = at (begun is)
          where
            at : (starts n d ≡ true) ⊎ ((begins d ≡ false) × (initialised past n ≡ true)) → list_any clears (d ∷ behind) ≡ true
            at (inl s) = or_left (clears d) (list_any clears behind) (starts_clears n d start s)
            at (inr more) = absurd (let wrong : true ≡ false = sym bs ∙ more.0 in cc)
    go true bs false os why within skip =
        ap (λ o. held_behind behind (cond o (d ∷ []) [])) os ∙ sym (held_none behind (filter (of_layer n) past) (now why))
      where
        now : (initialised (d ∷ past) n ≡ true) ⊎ (list_any clears behind ≡ true) → list_any clears behind ≡ true
        now (inr k) = k
        now (inl is) = at (begun is)
          where
            at : (starts n d ≡ true) ⊎ ((begins d ≡ false) × (initialised past n ≡ true)) → list_any clears behind ≡ true
            at (inl s) = absurd (let wrong : true ≡ false = sym (and_parts (of_layer n d) d.start s).0 ∙ os in cc)
            at (inr more) = absurd (let wrong : true ≡ false = sym bs ∙ more.0 in cc)
    go false bs true os why within skip =
        ap (λ o. held_behind behind (cond o (d ∷ filter (of_layer n) (from begins past)) (filter (of_layer n) (from begins past)))) os ∙ ap one (within (now why))
      where
        now : (initialised (d ∷ past) n ≡ true) ⊎ (list_any clears behind ≡ true) → (initialised past n || list_any clears (d ∷ behind)) ≡ true
        now (inr k) = or_right (initialised past n) (list_any clears (d ∷ behind)) (or_right (clears d) (list_any clears behind) k)
        now (inl is) = at (begun is)
          where
            at : (starts n d ≡ true) ⊎ ((begins d ≡ false) × (initialised past n ≡ true)) → (initialised past n || list_any clears (d ∷ behind)) ≡ true
            at (inl s) = or_right (initialised past n) (list_any clears (d ∷ behind)) (or_left (clears d) (list_any clears behind) (starts_clears n d start s))
            at (inr more) = or_left (initialised past n) (list_any clears (d ∷ behind)) more.1
    go false bs false os why within skip =
        ap (λ o. held_behind behind (cond o (d ∷ filter (of_layer n) (from begins past)) (filter (of_layer n) (from begins past)))) os ∙ skip (now why)
      where
        now : (initialised (d ∷ past) n ≡ true) ⊎ (list_any clears behind ≡ true) → (initialised past n || list_any clears behind) ≡ true
        now (inr k) = or_right (initialised past n) (list_any clears behind) k
        now (inl is) = at (begun is)
          where
            at : (starts n d ≡ true) ⊎ ((begins d ≡ false) × (initialised past n ≡ true)) → (initialised past n || list_any clears behind) ≡ true
            at (inl s) = absurd (let wrong : true ≡ false = sym (and_parts (of_layer n d) d.start s).0 ∙ os in cc)
            at (inr more) = or_left (initialised past n) (list_any clears behind) more.1

-- behind a history whose layer is initialised
pub held-whole : (us : List (List ℕ)) (n : ℕ) → initialised (hist us) n ≡ true → held_behind [] (in_sequence (hist us) n) ≡ held_behind [] (filter (of_layer n) (hist us))
unfolding sequence
held-whole us n h = held_same n [] (hist us) (starts_decoded us) (or_left (initialised (hist us) n) false h)
