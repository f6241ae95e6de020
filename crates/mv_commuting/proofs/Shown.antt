-- What is decoded and put out of an extract.
use Rattle.std.proofs.Common.{◌≡◌, ◌⊎◌, inl, inr, ℕ, Bool, true, false, cond, not, ◌&&◌, List, [], ◌∷◌, get_or, reverse, Option, None, Some, refl, ap, sym, subst, ◌∙◌, filter, map}
use Rattle.std.specs.Prelude.{All, option_and_then}
use Rattle.std.specs.List.{find}
use Rattle.std.proofs.lemmas.Bool.{eqb-true, and_parts}
use Rattle.std.proofs.lemmas.List.Elements.{All-nil, All-cons, All-weaker, All-filter, filter_passes}
use Rattle.mv_layers.specs.OutputLayers.{is_among}
use Rattle.mv_history.specs.History.{from, run}
use Rattle.mv_history.specs.Order.{sorted}
use Rattle.mv_history.proofs.Instances.{All-sorted}
use Rattle.mv_history.proofs.Kept.{All-both, All-unmap, Keeps-from, filter-filter, filter_swap, find-from, map_agree_at}
use Rattle.mv_pictures.specs.Layers.{InForce, keeps, set_at, sets_at, view}
use Rattle.mv_pictures.specs.Items.{Item, is_first_segment, is_picture as item_picture, is_slice as item_slice, items, stays, vps_behind}
use Rattle.mv_pictures.specs.AccessUnits.{Placed, all_placed, placed}
use Rattle.mv_pictures.specs.Facts.{Fact, fact, facts}
use Rattle.mv_pictures.specs.Judged.{Judged, au, begins, in_au, is_slice, layer, of_layer, vps_at}
use Rattle.mv_pictures.specs.Look.{asked, look, sequence}
use Rattle.mv_pictures.specs.Starts.{is_decoded, is_sequence_start, is_skipped, sequence_vps}
use Rattle.mv_pictures.specs.History.{history, judged, judgement}
use Rattle.mv_pictures.specs.References.{segment, segments_in, start_of, term_in}
use Rattle.mv_pictures.specs.Output.{count_of, is_before, is_output, outputs}
use Rattle.mv_pictures.specs.SliceFields.{is_put_out}
use Rattle.mv_pictures.specs.Terms.{picture}
use Rattle.mv_pictures.specs.Decoding.{decode_history, decoded_of, out_history}
use Rattle.mv_commuting.proofs.Alike.{judged_stays}
use Rattle.mv_commuting.proofs.Closures.{find_all}
use Rattle.mv_commuting.proofs.Facts.{facts_placed, one_vps-here, placed_items, this}
use Rattle.mv_commuting.proofs.Histories.{history_facts}
use Rattle.mv_commuting.proofs.OneVps.{slice_at}
use Rattle.mv_commuting.proofs.Steady.{AllFine, InForceIn, hist, is_pending, judged_seq, pending_starts, steady, this_fact, this_judged}
use Rattle.mv_commuting.proofs.Turns.{IsInForce}

-- ---- Slice segments of one access unit

abbrev Like : Placed → Placed → Type 0
Like q r = item_slice q.item ≡ true → item_slice r.item ≡ true → q.au ≡ r.au → r.item.at ≡ q.item.at

all_like : (us : List (List ℕ)) → All (λ q. All (Like q) (all_placed (items us))) (all_placed (items us))
unfolding items run all_placed
all_like [] = All-nil (λ q. All (Like q) [])
all_like (u ∷ us) =
    let here : All (λ (q : Placed). item_slice q.item ≡ true → q.au ≡ (this us u).au → q.item.at ≡ (this us u).item.at) (all_placed (items us)) = one_vps-here us u in
    All-cons (λ q. All (Like q) (this us u ∷ all_placed (items us))) (this us u) (all_placed (items us))
    (All-cons (Like (this us u)) (this us u) (all_placed (items us)) (λ s t e. refl)
    (All-weaker (λ (q : Placed). item_slice q.item ≡ true → q.au ≡ (this us u).au → q.item.at ≡ (this us u).item.at) (Like (this us u)) (λ r is s t e. is t (sym e)) (all_placed (items us)) here))
    (λ k d low. All-cons (Like (get_or (all_placed (items us)) k d)) (this us u) (all_placed (items us))
    (λ s t e. sym (here k d low s e))
    (all_like us k d low))

pub placed_of_hist : (us : List (List ℕ)) → map (λ (d : Judged). d.fact.placed) (hist us) ≡ all_placed (items us)
placed_of_hist us = map_map (hist us) ∙ ap (map (λ (f : Fact). f.placed)) (history_facts us) ∙ facts_placed us
  where
    map_map : (ds : List Judged) → map (λ (d : Judged). d.fact.placed) ds ≡ map (λ (f : Fact). f.placed) (map (λ (d : Judged). d.fact) ds)
    map_map [] = refl
    map_map (d ∷ ds) = ap (λ ps. d.fact.placed ∷ ps) (map_map ds)

hist_like : (us : List (List ℕ)) → All (λ (d : Judged). All (λ (e : Judged). Like d.fact.placed e.fact.placed) (hist us)) (hist us)
hist_like us =
    All-unmap (λ q. All (λ (e : Judged). Like q e.fact.placed) (hist us)) (λ (d : Judged). d.fact.placed) (hist us)
    (subst (All (λ q. All (λ (e : Judged). Like q e.fact.placed) (hist us))) (sym (placed_of_hist us))
    (All-weaker (λ q. All (Like q) (all_placed (items us))) (λ q. All (λ (e : Judged). Like q e.fact.placed) (hist us))
    (λ q h. All-unmap (Like q) (λ (d : Judged). d.fact.placed) (hist us) (subst (All (Like q)) (sym (placed_of_hist us)) h))
    (all_placed (items us)) (all_like us)))

-- ---- Terms

same_segments : (o : ℕ) (all : List Judged) (d : Judged) → is_slice d.fact ≡ true → judged_stays o d ≡ true → All (λ (e : Judged). Like d.fact.placed e.fact.placed) all →
    segments_in (filter (of_layer (layer d.fact)) (filter (judged_stays o) all)) d ≡ segments_in (filter (of_layer (layer d.fact)) all) d
unfolding segments_in stays keeps
same_segments o all d slice kept like =
    ap (λ es. reverse (map segment es))
    (ap (filter (λ (e : Judged). is_slice e.fact && in_au (au d.fact) e)) (filter_swap (of_layer (layer d.fact)) (judged_stays o) all)
    ∙ filter-filter (λ (e : Judged). is_slice e.fact && in_au (au d.fact) e) (judged_stays o) (filter (of_layer (layer d.fact)) all)
    (Keeps-from (λ (e : Judged). Like d.fact.placed e.fact.placed × (of_layer (layer d.fact) e ≡ true)) (λ (e : Judged). is_slice e.fact && in_au (au d.fact) e) (judged_stays o) (filter (of_layer (layer d.fact)) all)
    (λ e is test.
    let parts : (is_slice e.fact ≡ true) × (in_au (au d.fact) e ≡ true) = and_parts (is_slice e.fact) (in_au (au d.fact) e) test in
    ap (λ at. keeps o at (layer e.fact)) (is.0 slice parts.0 (sym (eqb-true (au e.fact) (au d.fact) parts.1)))
    ∙ ap (keeps o (vps_at d.fact)) (eqb-true (layer e.fact) (layer d.fact) is.1)
    ∙ kept)
    (All-both (λ (e : Judged). Like d.fact.placed e.fact.placed) (λ (e : Judged). of_layer (layer d.fact) e ≡ true) (filter (of_layer (layer d.fact)) all)
    (All-filter (of_layer (layer d.fact)) (λ (e : Judged). Like d.fact.placed e.fact.placed) all like)
    (filter_passes (of_layer (layer d.fact)) all))))

same_decoded : (o : ℕ) (all : List Judged) (d : Judged) → is_slice d.fact ≡ true → judged_stays o d ≡ true → All (λ (e : Judged). Like d.fact.placed e.fact.placed) all →
    decoded_of (filter (judged_stays o) all) d ≡ decoded_of all d
unfolding decoded_of term_in
same_decoded o all d slice kept like =
    ap (λ segments. record { sequence = d.sequence; au = au d.fact; layer = layer d.fact; view = view (vps_at d.fact) (layer d.fact); output = is_put_out d.fact; count = count_of d; term = picture (start_of d) d.references segments })
    (same_segments o all d slice kept like)

-- ---- Decoded pictures

decoded_slice : (us : List (List ℕ)) → All (λ (d : Judged). d.decoded ≡ true → is_slice d.fact ≡ true) (hist us)
unfolding items run all_placed facts history
decoded_slice [] = All-nil (λ (d : Judged). d.decoded ≡ true → is_slice d.fact ≡ true)
decoded_slice (u ∷ us) = All-cons (λ (d : Judged). d.decoded ≡ true → is_slice d.fact ≡ true) (this_judged us u) (hist us) now (decoded_slice us)
  where
    now : (this_judged us u).decoded ≡ true → is_slice (this_judged us u).fact ≡ true
    now = unfold judged judgement is_decoded in λ h.
        (and_parts (is_slice (this_fact us u)) (is_first_segment (this_fact us u).placed.item.opening)
        (and_parts (item_picture (this_fact us u).placed.item) (not (is_skipped (look (asked (hist us) (this_fact us u)) (this_fact us u)) (this_fact us u))) h).0).0

-- what is needed of a picture of which something is shown
abbrev IsPlain : List Judged → Judged → Type 0
IsPlain all d = All (λ (e : Judged). Like d.fact.placed e.fact.placed) all × (d.decoded ≡ true → is_slice d.fact ≡ true)

all_plain : (us : List (List ℕ)) → All (IsPlain (hist us)) (hist us)
all_plain us = All-both (λ (d : Judged). All (λ (e : Judged). Like d.fact.placed e.fact.placed) (hist us)) (λ (d : Judged). d.decoded ≡ true → is_slice d.fact ≡ true) (hist us) (hist_like us) (decoded_slice us)

pub decode-keep : (o : ℕ) (us : List (List ℕ)) →
    decode_history (filter (judged_stays o) (hist us)) ≡ reverse (map (decoded_of (hist us)) (filter (judged_stays o) (filter (λ (d : Judged). d.decoded) (hist us))))
unfolding decode_history
decode-keep o us =
    ap (λ ds. reverse (map (decoded_of (filter (judged_stays o) (hist us))) ds)) (filter_swap (λ (d : Judged). d.decoded) (judged_stays o) (hist us))
    ∙ ap reverse
    (map_agree_at (decoded_of (filter (judged_stays o) (hist us))) (decoded_of (hist us)) (filter (judged_stays o) (filter (λ (d : Judged). d.decoded) (hist us)))
    (λ k d low.
    let plain : IsPlain (hist us) (get_or (filter (judged_stays o) (filter (λ (d : Judged). d.decoded) (hist us))) k d) =
    All-filter (judged_stays o) (IsPlain (hist us)) (filter (λ (d : Judged). d.decoded) (hist us)) (All-filter (λ (d : Judged). d.decoded) (IsPlain (hist us)) (hist us) (all_plain us)) k d low in
    same_decoded o (hist us) (get_or (filter (judged_stays o) (filter (λ (d : Judged). d.decoded) (hist us))) k d)
    (plain.1 (All-filter (judged_stays o) (λ (d : Judged). d.decoded ≡ true) (filter (λ (d : Judged). d.decoded) (hist us)) (filter_passes (λ (d : Judged). d.decoded) (hist us)) k d low))
    (filter_passes (judged_stays o) (filter (λ (d : Judged). d.decoded) (hist us)) k d low)
    plain.0))

-- ---- Output

-- the video parameter set of a slice segment's sequence is in force at it
abbrev IsSeated : Judged → Type 0
IsSeated d = is_slice d.fact ≡ true → (d.seq_vps ≡ None) ⊎ (d.seq_vps ≡ vps_at d.fact)

pub find_stop : (past : List Judged) (r : Judged) (P : Judged → Type 0) → All P (sequence past) → find begins past ≡ Some r → P r
unfolding sequence
find_stop past r P h is = (find_all P begins (from begins past) r h (find-from begins begins (λ d h. h) past ∙ is)).0

pub asked_root : (past : List Judged) (p : Fact) → is_slice p ≡ true → (look (asked past p) p).root ≡ find begins past
unfolding look asked
asked_root past p slice = ap (λ b. find begins (cond b past [])) slice

pub seated : (us : List (List ℕ)) → AllFine us → All IsSeated (hist us)
unfolding items run all_placed facts history
seated [] fine = All-nil IsSeated
seated (u ∷ us) fine = All-cons IsSeated (this_judged us u) (hist us) now (seated us fine.1)
  where
    root : is_slice (this_fact us u) ≡ true → (b : Bool) → is_pending (all_placed (items us)) ≡ b → is_sequence_start (look (asked (hist us) (this_fact us u)) (this_fact us u)) (this_fact us u) ≡ false →
        (x : Option Judged) → find begins (hist us) ≡ x → (option_and_then (λ (d : Judged). vps_at d.fact) x ≡ None) ⊎ (option_and_then (λ (d : Judged). vps_at d.fact) x ≡ vps_at (this_fact us u))
    root slice true waits not_start x is =
        let begun : (this_judged us u).seq ≡ true = (and_parts (of_layer 0 (this_judged us u)) (this_judged us u).seq (pending_starts us u fine.0 (unfold fact in slice) waits).begins).1 in
        absurd (let wrong : true ≡ false = sym begun ∙ judged_seq us u ∙ not_start in cc)
    root slice false quiet not_start None is = inl refl
    root slice false quiet not_start (Some r) is = go (find_stop (hist us) r (InForceIn (vps_behind (items us))) (steady us fine.1 quiet) is)
      where
        go : IsInForce (vps_behind (items us)) (vps_at r.fact) → (vps_at r.fact ≡ None) ⊎ (vps_at r.fact ≡ vps_at (this_fact us u))
        go (inl none) = inl none
        go (inr same) = inr (same ∙ sym (unfold fact placed in slice_at us u slice))

    now : IsSeated (this_judged us u)
    now = unfold judged judgement sequence_vps look in λ slice.
        pick slice (is_sequence_start (look (asked (hist us) (this_fact us u)) (this_fact us u)) (this_fact us u)) refl
      where
        pick : is_slice (this_fact us u) ≡ true → (b : Bool) → is_sequence_start (look (asked (hist us) (this_fact us u)) (this_fact us u)) (this_fact us u) ≡ b →
            (cond b (vps_at (this_fact us u)) (option_and_then (λ (d : Judged). vps_at d.fact) (look (asked (hist us) (this_fact us u)) (this_fact us u)).root) ≡ None)
            ⊎ (cond b (vps_at (this_fact us u)) (option_and_then (λ (d : Judged). vps_at d.fact) (look (asked (hist us) (this_fact us u)) (this_fact us u)).root) ≡ vps_at (this_fact us u))
        pick slice true e = inr refl
        pick slice false e =
            subst (λ x. (option_and_then (λ (d : Judged). vps_at d.fact) x ≡ None) ⊎ (option_and_then (λ (d : Judged). vps_at d.fact) x ≡ vps_at (this_fact us u)))
            (sym (asked_root (hist us) (this_fact us u) slice))
            (root slice (is_pending (all_placed (items us))) refl e (find begins (hist us)) refl)

-- the outputs of set p by a video parameter set are kept for set o by it
pub record KeepsOutputs (o p : ℕ) (at : InForce) : Type 0 where
  pub kept : (layer : ℕ) → is_among (outputs at p) layer ≡ true → keeps o at layer ≡ true

outputs_none : (p layer : ℕ) → is_among (outputs None p) layer ≡ true → ⊥
unfolding outputs set_at sets_at
outputs_none p layer h = let wrong : true ≡ false = sym h in cc

item_of_hist : (us : List (List ℕ)) → map (λ (d : Judged). d.fact.placed.item) (hist us) ≡ items us
item_of_hist us = map_map (hist us) ∙ ap (map (λ (p : Placed). p.item)) (placed_of_hist us) ∙ placed_items us
  where
    map_map : (ds : List Judged) → map (λ (d : Judged). d.fact.placed.item) ds ≡ map (λ (p : Placed). p.item) (map (λ (d : Judged). d.fact.placed) ds)
    map_map [] = refl
    map_map (d ∷ ds) = ap (λ is. d.fact.placed.item ∷ is) (map_map ds)

-- an output picture of set p is kept
record IsShown (o p : ℕ) (d : Judged) : Type 0 where
  pub outputs : KeepsOutputs o p (vps_at d.fact)
  pub seated : IsSeated d
  pub slice : d.decoded ≡ true → is_slice d.fact ≡ true

output_stays : (o p : ℕ) (d : Judged) → IsShown o p d → is_output p d ≡ true → judged_stays o d ≡ true
unfolding is_output stays
output_stays o p d shown h = go (shown.seated (shown.slice both.0)) both.1
  where
    both : (d.decoded ≡ true) × (is_among (outputs d.seq_vps p) (layer d.fact) ≡ true)
    both = and_parts d.decoded (is_among (outputs d.seq_vps p) (layer d.fact)) (and_parts (d.decoded && is_among (outputs d.seq_vps p) (layer d.fact)) (is_put_out d.fact) h).0

    go : (d.seq_vps ≡ None) ⊎ (d.seq_vps ≡ vps_at d.fact) → is_among (outputs d.seq_vps p) (layer d.fact) ≡ true → keeps o (vps_at d.fact) (layer d.fact) ≡ true
    go (inl none) h = absurd (outputs_none p (layer d.fact) (ap (λ at. is_among (outputs at p) (layer d.fact)) (sym none) ∙ h))
    go (inr same) h = shown.outputs.kept (layer d.fact) (ap (λ at. is_among (outputs at p) (layer d.fact)) (sym same) ∙ h)

all_shown : (o p : ℕ) (us : List (List ℕ)) → AllFine us → All (λ (i : Item). KeepsOutputs o p i.at) (items us) → All (IsShown o p) (hist us)
all_shown o p us fine h =
    let kept : All (λ (d : Judged). KeepsOutputs o p (vps_at d.fact)) (hist us) =
    All-unmap (λ (i : Item). KeepsOutputs o p i.at) (λ (d : Judged). d.fact.placed.item) (hist us) (subst (All (λ (i : Item). KeepsOutputs o p i.at)) (sym (item_of_hist us)) h) in
    λ k d low. record { outputs = kept k d low; seated = seated us fine k d low; slice = decoded_slice us k d low }

same_outputs : (o p : ℕ) (us : List (List ℕ)) → AllFine us → All (λ (i : Item). KeepsOutputs o p i.at) (items us) →
    filter (is_output p) (filter (judged_stays o) (hist us)) ≡ filter (is_output p) (hist us)
same_outputs o p us fine h =
    filter-filter (is_output p) (judged_stays o) (hist us) (Keeps-from (IsShown o p) (is_output p) (judged_stays o) (hist us) (output_stays o p) (all_shown o p us fine h))

-- what is put out of an extract is what is put out of the whole
abbrev IsPutOut : ℕ → ℕ → List Judged → Judged → Type 0
IsPutOut o p all d = (IsPlain all d × IsShown o p d) × (is_output p d ≡ true)

pub out-keep : (o p : ℕ) (us : List (List ℕ)) → AllFine us → All (λ (i : Item). KeepsOutputs o p i.at) (items us) →
    out_history (filter (judged_stays o) (hist us)) p ≡ out_history (hist us) p
unfolding out_history is_output
out-keep o p us fine h =
    ap (λ ds. map (decoded_of (filter (judged_stays o) (hist us))) (sorted is_before ds)) (same_outputs o p us fine h)
    ∙ map_agree_at (decoded_of (filter (judged_stays o) (hist us))) (decoded_of (hist us)) (sorted is_before (filter (is_output p) (hist us)))
    (λ k d low.
    let is : IsPutOut o p (hist us) (get_or (sorted is_before (filter (is_output p) (hist us))) k d) =
    All-sorted (IsPutOut o p (hist us)) is_before (filter (is_output p) (hist us))
    (All-both (λ (d : Judged). IsPlain (hist us) d × IsShown o p d) (λ (d : Judged). is_output p d ≡ true) (filter (is_output p) (hist us))
    (All-filter (is_output p) (λ (d : Judged). IsPlain (hist us) d × IsShown o p d) (hist us) (All-both (IsPlain (hist us)) (IsShown o p) (hist us) (all_plain us) (all_shown o p us fine h)))
    (filter_passes (is_output p) (hist us))) k d low in
    let it : Judged = get_or (sorted is_before (filter (is_output p) (hist us))) k d in
    same_decoded o (hist us) it
    (is.0.0.1 (and_parts it.decoded (is_among (outputs it.seq_vps p) (layer it.fact)) (and_parts (it.decoded && is_among (outputs it.seq_vps p) (layer it.fact)) (is_put_out it.fact) is.1).0).0)
    (output_stays o p it is.0.1 is.1)
    is.0.0.0)
