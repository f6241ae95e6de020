-- What a kept unit asks of the past is the same in the extract.
use Rattle.std.proofs.Common.{◌≡◌, ◌⊎◌, inl, inr, ℕ, ◌<◌, ◌≤◌, Bool, true, false, ◌&&◌, ◌||◌, List, [], length, get_or, Option, refl, ap, sym, subst, ◌∙◌, filter, map, arith}
use Rattle.std.specs.Prelude.{nat_eq, option_map}
use Rattle.std.specs.List.{find, list_all}
use Rattle.std.proofs.lemmas.Bool.{cases_lt, eqb-true, eq-eqb, and_parts, or_cases}
use Rattle.std.proofs.lemmas.List.{get_or_past}
use Rattle.std.proofs.lemmas.List.Elements.{All-map}
use Rattle.std.proofs.lemmas.List.Folds.{list_any_at}
use Rattle.mv_syntax.specs.Words.{◌otherwise◌}
use Rattle.mv_layers.specs.OutputLayers.{is_among}
use Rattle.mv_history.specs.History.{Keeps}
use Rattle.mv_history.proofs.Kept.{Keeps-from, filter-filter, find-filter, find-from, from-filter, list_all_agree_at, map_agree_at}
use Rattle.mv_pictures.specs.Layers.{InForce, directs, keeps}
use Rattle.mv_pictures.specs.Items.{is_slice, items, stays, vps_behind}
use Rattle.mv_pictures.specs.AccessUnits.{all_placed, placed}
use Rattle.mv_pictures.specs.Facts.{Fact, fact}
use Rattle.mv_pictures.specs.SliceFields.{active_layers, full_of}
use Rattle.mv_slice.specs.Slice.{header_layers}
use Rattle.mv_pictures.specs.Judged.{Judged, begins, is_end, is_picture, layer, of_layer, resets, starts, vps_at}
use Rattle.mv_pictures.specs.Look.{Look, in_sequence, initialised, look, sequence}
use Rattle.mv_commuting.proofs.Facts.{fact_stays, this}
use Rattle.mv_commuting.proofs.Items.{base_stays, each, keeps_base}
use Rattle.mv_commuting.proofs.KeptLayers.{directs_below, directs_kept}
use Rattle.mv_commuting.proofs.OneVps.{slice_at}
use Rattle.mv_commuting.proofs.Steady.{AllFine, InForceIn, IsFine, hist, is_pending, item_orderly, pending_starts, steady, this_fact}

-- what is kept of judgements
abbrev pub judged_stays : ℕ → Judged → Bool
judged_stays o d = fact_stays o d.fact

of_base : (o : ℕ) (d : Judged) → of_layer 0 d ≡ true → judged_stays o d ≡ true
of_base o d h = base_stays o d.fact.placed.item h

begins_stays : (o : ℕ) (d : Judged) → begins d ≡ true → judged_stays o d ≡ true
begins_stays o d h = of_base o d (and_parts (of_layer 0 d) d.seq h).0

-- a layer of which a slice segment asks: it is kept, and it is layer 0 or the past of the sequence has one video parameter set
record IsGood (o : ℕ) (us : List (List ℕ)) (u : List ℕ) (n : ℕ) : Type 0 where
  pub kept : keeps o (this us u).item.at n ≡ true
  pub alike : (n ≡ 0) ⊎ (is_pending (all_placed (items us)) ≡ false)

pub sequence-kept : (o : ℕ) (past : List Judged) → sequence (filter (judged_stays o) past) ≡ filter (judged_stays o) (sequence past)
unfolding sequence
sequence-kept o past = from-filter begins (judged_stays o) past (each (λ d. begins d ≡ true → judged_stays o d ≡ true) (begins_stays o) past)

in_force_stays : (o : ℕ) (now : InForce) (n : ℕ) (d : Judged) → keeps o now n ≡ true → InForceIn now d → of_layer n d ≡ true → judged_stays o d ≡ true
unfolding stays keeps
in_force_stays o now n d kept (inl none) is = ap (λ at. keeps o at (layer d.fact)) none
in_force_stays o now n d kept (inr same) is = ap (λ at. keeps o at (layer d.fact)) same ∙ ap (keeps o now) (eqb-true (layer d.fact) n is) ∙ kept

of_layer_stays : (o : ℕ) (us : List (List ℕ)) (u : List ℕ) (n : ℕ) → AllFine us → is_slice (this us u).item ≡ true → IsGood o us u n → Keeps (of_layer n) (judged_stays o) (sequence (hist us))
unfolding placed
of_layer_stays o us u n fine slice good = go good.alike
  where
    go : (n ≡ 0) ⊎ (is_pending (all_placed (items us)) ≡ false) → Keeps (of_layer n) (judged_stays o) (sequence (hist us))
    go (inl base) = each (λ d. of_layer n d ≡ true → judged_stays o d ≡ true) (λ d h. of_base o d (ap (λ k. nat_eq (layer d.fact) k) (sym base) ∙ h)) (sequence (hist us))
    go (inr quiet) =
        Keeps-from (InForceIn (vps_behind (items us))) (of_layer n) (judged_stays o) (sequence (hist us))
        (λ d. in_force_stays o (vps_behind (items us)) n d (ap (λ at. keeps o at n) (sym (slice_at us u slice)) ∙ good.kept))
        (steady us fine quiet)

in_sequence-kept : (o : ℕ) (us : List (List ℕ)) (u : List ℕ) (n : ℕ) → AllFine us → is_slice (this us u).item ≡ true → IsGood o us u n →
    in_sequence (filter (judged_stays o) (hist us)) n ≡ in_sequence (hist us) n
in_sequence-kept o us u n fine slice good =
    ap (filter (of_layer n)) (sequence-kept o (hist us))
    ∙ filter-filter (of_layer n) (judged_stays o) (sequence (hist us)) (of_layer_stays o us u n fine slice good)

-- a start or a reset of a layer is of the layer, or starts a sequence
start_stays : (o n : ℕ) (d : Judged) → (of_layer n d ≡ true → judged_stays o d ≡ true) → (starts n d || resets n d) ≡ true → judged_stays o d ≡ true
start_stays o n d layer h = go (or_cases (starts n d) (resets n d) h)
  where
    go : (starts n d ≡ true) ⊎ (resets n d ≡ true) → judged_stays o d ≡ true
    go (inl s) = layer (and_parts (of_layer n d) d.start s).0
    go (inr r) = again (or_cases (begins d) (of_layer n d && d.reset) r)
      where
        again : (begins d ≡ true) ⊎ ((of_layer n d && d.reset) ≡ true) → judged_stays o d ≡ true
        again (inl b) = begins_stays o d b
        again (inr r) = layer (and_parts (of_layer n d) d.reset r).0

begins_tests : (n : ℕ) (d : Judged) → begins d ≡ true → (starts n d || resets n d) ≡ true
begins_tests n d h = last (starts n d) (begins d) (of_layer n d && d.reset) h
  where
    last : (a b c : Bool) → b ≡ true → (a || (b || c)) ≡ true
    last true b c h = refl
    last false b c h = ap (λ b. b || c) h

initialised-kept : (o : ℕ) (us : List (List ℕ)) (u : List ℕ) (n : ℕ) → AllFine us → is_slice (this us u).item ≡ true → IsGood o us u n →
    initialised (filter (judged_stays o) (hist us)) n ≡ initialised (hist us) n
unfolding initialised sequence
initialised-kept o us u n fine slice good =
    ap (λ found. option_map (starts n) found otherwise false)
    (sym (find-from (λ d. starts n d || resets n d) begins (begins_tests n) (filter (judged_stays o) (hist us)))
    ∙ ap (find (λ d. starts n d || resets n d)) (sequence-kept o (hist us))
    ∙ find-filter (λ d. starts n d || resets n d) (judged_stays o) (sequence (hist us))
    (λ k d low. start_stays o n (get_or (sequence (hist us)) k d) (of_layer_stays o us u n fine slice good k d low))
    ∙ find-from (λ d. starts n d || resets n d) begins (begins_tests n) (hist us))

-- ---- The layers of which a slice segment asks

good_here : (o : ℕ) (us : List (List ℕ)) (u : List ℕ) (n : ℕ) → IsFine us u → is_slice (this us u).item ≡ true → keeps o (this us u).item.at n ≡ true →
    ((this us u).item.head.layer ≡ 0 → n ≡ 0) → IsGood o us u n
good_here o us u n fine slice kept low = record { kept = kept; alike = go (is_pending (all_placed (items us))) refl }
  where
    go : (b : Bool) → is_pending (all_placed (items us)) ≡ b → (n ≡ 0) ⊎ (is_pending (all_placed (items us)) ≡ false)
    go false e = inr e
    go true e = inl (low (eqb-true (this us u).item.head.layer 0 (pending_starts us u fine slice e).base))

good_own : (o : ℕ) (us : List (List ℕ)) (u : List ℕ) → IsFine us u → is_slice (this us u).item ≡ true → stays o (this us u).item ≡ true → IsGood o us u (this us u).item.head.layer
unfolding stays
good_own o us u fine slice kept = good_here o us u (this us u).item.head.layer fine slice kept (λ base. base)

good_direct : (o : ℕ) (us : List (List ℕ)) (u : List ℕ) → IsFine us u → is_slice (this us u).item ≡ true → stays o (this us u).item ≡ true →
    (n : ℕ) → is_among (directs (this us u).item.at (this us u).item.head.layer) n ≡ true → IsGood o us u n
unfolding stays placed
good_direct o us u fine slice kept n refers =
    good_here o us u n fine slice
    (directs_kept o (this us u).item.at (item_orderly us u) (this us u).item.head.layer n kept refers)
    (λ base. let below : n < (this us u).item.head.layer = directs_below (this us u).item.at (item_orderly us u) (this us u).item.head.layer n refers in absurd (omega (arith, below, base)))

good_base : (o : ℕ) (us : List (List ℕ)) (u : List ℕ) → IsGood o us u 0
good_base o us u = record { kept = keeps_base o (this us u).item.at 0 refl; alike = inl refl }

among_at : (xs : List ℕ) (k d : ℕ) → k < length xs → is_among xs (get_or xs k d) ≡ true
among_at xs k d low = list_any_at (λ n. nat_eq n (get_or xs k d)) xs k d low (eq-eqb (get_or xs k d) (get_or xs k d) refl)

good_active : (o : ℕ) (us : List (List ℕ)) (u : List ℕ) → IsFine us u → is_slice (this us u).item ≡ true → stays o (this us u).item ≡ true →
    (i : ℕ) → IsGood o us u (get_or (directs (this us u).item.at (this us u).item.head.layer) i 0)
good_active o us u fine slice kept i = go (cases_lt i (length (directs (this us u).item.at (this us u).item.head.layer)))
  where
    go : (i < length (directs (this us u).item.at (this us u).item.head.layer)) ⊎ (length (directs (this us u).item.at (this us u).item.head.layer) ≤ i) →
        IsGood o us u (get_or (directs (this us u).item.at (this us u).item.head.layer) i 0)
    go (inl low) = good_direct o us u fine slice kept (get_or (directs (this us u).item.at (this us u).item.head.layer) i 0) (among_at (directs (this us u).item.at (this us u).item.head.layer) i 0 low)
    go (inr past) = subst (IsGood o us u) (sym (get_or_past (directs (this us u).item.at (this us u).item.head.layer) i 0 past)) (good_base o us u)

-- ---- The look

look_by : Option Judged → Option Judged → Option Judged → ℕ → Bool → Bool → List Judged → List (List Judged) → Look
look_by border base root seqs here ready own across =
    record { border = border; base = base; root = root; seqs = seqs; here = here; ready = ready; own = own; across = across }

is_border : Judged → Bool
is_border d = of_layer 0 d && (is_picture d.fact || is_end d.fact)

is_base_picture : Judged → Bool
is_base_picture d = of_layer 0 d && is_picture d.fact

look-by : (past : List Judged) (p : Fact) → look past p ≡ look_by (find is_border past) (find is_base_picture past) (find begins past) (length (filter begins past))
    (initialised past (layer p)) (list_all (initialised past) (directs (vps_at p) (layer p))) (in_sequence past (layer p)) (map (in_sequence past) (active_layers p))
unfolding look look_by is_border is_base_picture
look-by past p = refl

border_stays : (o : ℕ) (d : Judged) → is_border d ≡ true → judged_stays o d ≡ true
unfolding is_border
border_stays o d h = of_base o d (and_parts (of_layer 0 d) (is_picture d.fact || is_end d.fact) h).0

base_picture_stays : (o : ℕ) (d : Judged) → is_base_picture d ≡ true → judged_stays o d ≡ true
unfolding is_base_picture
base_picture_stays o d h = of_base o d (and_parts (of_layer 0 d) (is_picture d.fact) h).0

pub look-kept : (o : ℕ) (us : List (List ℕ)) (u : List ℕ) → AllFine us → IsFine us u → is_slice (this us u).item ≡ true → stays o (this us u).item ≡ true →
    look (filter (judged_stays o) (hist us)) (this_fact us u) ≡ look (hist us) (this_fact us u)
unfolding fact active_layers
look-kept o us u fine here slice kept =
    look-by (filter (judged_stays o) (hist us)) (this_fact us u)
    ∙ ap (λ x. look_by x (find is_base_picture past) (find begins past) (length (filter begins past)) (initialised past n) (list_all (initialised past) ds) (in_sequence past n) (map (in_sequence past) active))
    (find-filter is_border (judged_stays o) (hist us) (each (λ d. is_border d ≡ true → judged_stays o d ≡ true) (border_stays o) (hist us)))
    ∙ ap (λ x. look_by (find is_border (hist us)) x (find begins past) (length (filter begins past)) (initialised past n) (list_all (initialised past) ds) (in_sequence past n) (map (in_sequence past) active))
    (find-filter is_base_picture (judged_stays o) (hist us) (each (λ d. is_base_picture d ≡ true → judged_stays o d ≡ true) (base_picture_stays o) (hist us)))
    ∙ ap (λ x. look_by (find is_border (hist us)) (find is_base_picture (hist us)) x (length (filter begins past)) (initialised past n) (list_all (initialised past) ds) (in_sequence past n) (map (in_sequence past) active))
    (find-filter begins (judged_stays o) (hist us) starts_kept)
    ∙ ap (λ x. look_by (find is_border (hist us)) (find is_base_picture (hist us)) (find begins (hist us)) (length x) (initialised past n) (list_all (initialised past) ds) (in_sequence past n) (map (in_sequence past) active))
    (filter-filter begins (judged_stays o) (hist us) starts_kept)
    ∙ ap (λ x. look_by (find is_border (hist us)) (find is_base_picture (hist us)) (find begins (hist us)) (length (filter begins (hist us))) x (list_all (initialised past) ds) (in_sequence past n) (map (in_sequence past) active))
    (initialised-kept o us u n fine slice own)
    ∙ ap (λ x. look_by (find is_border (hist us)) (find is_base_picture (hist us)) (find begins (hist us)) (length (filter begins (hist us))) (initialised (hist us) n) x (in_sequence past n) (map (in_sequence past) active))
    (list_all_agree_at (initialised past) (initialised (hist us)) ds
    (λ k d low. initialised-kept o us u (get_or ds k d) fine slice (good_direct o us u here slice kept (get_or ds k d) (among_at ds k d low))))
    ∙ ap (λ x. look_by (find is_border (hist us)) (find is_base_picture (hist us)) (find begins (hist us)) (length (filter begins (hist us))) (initialised (hist us) n) (list_all (initialised (hist us)) ds) x (map (in_sequence past) active))
    (in_sequence-kept o us u n fine slice own)
    ∙ ap (λ x. look_by (find is_border (hist us)) (find is_base_picture (hist us)) (find begins (hist us)) (length (filter begins (hist us))) (initialised (hist us) n) (list_all (initialised (hist us)) ds) (in_sequence (hist us) n) x)
    (map_agree_at (in_sequence past) (in_sequence (hist us)) active
    (All-map (λ m. in_sequence past m ≡ in_sequence (hist us) m) (λ i. get_or ds i 0) (option_map (λ ctx. header_layers ctx (full_of (this_fact us u))) (this_fact us u).context otherwise [])
    (λ k d low. in_sequence-kept o us u (get_or ds (get_or (option_map (λ ctx. header_layers ctx (full_of (this_fact us u))) (this_fact us u).context otherwise []) k d) 0) fine slice
    (good_active o us u here slice kept (get_or (option_map (λ ctx. header_layers ctx (full_of (this_fact us u))) (this_fact us u).context otherwise []) k d)))))
    ∙ sym (look-by (hist us) (this_fact us u))
  where
    past : List Judged
    past = filter (judged_stays o) (hist us)

    n : ℕ
    n = (this us u).item.head.layer

    ds : List ℕ
    ds = directs (this us u).item.at (this us u).item.head.layer

    active : List ℕ
    active = active_layers (this_fact us u)

    own : IsGood o us u (this us u).item.head.layer
    own = good_own o us u here slice kept

    starts_kept : Keeps begins (judged_stays o) (hist us)
    starts_kept = each (λ d. begins d ≡ true → judged_stays o d ≡ true) (begins_stays o) (hist us)
