-- Without a video parameter set there is no picture.
use Rattle.std.proofs.Common.{◌≡◌, ℕ, Bool, true, false, cond, not, ◌&&◌, ◌||◌, List, [], ◌∷◌, reverse, None, Some, refl, ap, sym, ◌∙◌}
use Rattle.std.specs.Prelude.{All, is_none, nat_lt, option_map}
use Rattle.std.specs.List.{list_any}
use Rattle.std.proofs.lemmas.List.Elements.{All-cons, All-head, All-nil, All-tail}
use Rattle.mv_units.specs.Head.{head}
use Rattle.mv_units.specs.Escapes.{payload}
use Rattle.mv_history.specs.History.{run}
use Rattle.mv_syntax.specs.Words.{◌otherwise◌}
use Rattle.mv_pictures.specs.AccessUnits.{all_placed, placed}
use Rattle.mv_pictures.specs.Carried.{carried_vps}
use Rattle.mv_pictures.specs.Extract.{last_vps}
use Rattle.mv_pictures.specs.Facts.{fact, facts}
use Rattle.mv_pictures.specs.History.{facts_of, history, history_of, judged, judgement}
use Rattle.mv_pictures.specs.Items.{Item, is_first_segment, is_known, is_slice as item_slice, is_vps_head, item, items, vps_behind}
use Rattle.mv_pictures.specs.Judged.{Judged, of_layer}
use Rattle.mv_pictures.specs.Kinds.{is_pps_kind, is_slice_kind, is_sps_kind}
use Rattle.mv_pictures.specs.Layers.{InForce, whole}
use Rattle.mv_pictures.specs.Look.{asked, look}
use Rattle.mv_pictures.specs.Starts.{is_decoded, is_skipped}
use Rattle.mv_pictures.specs.UnitRules.{names_other_vps, no_vps}
use Rattle.mv_pictures.specs.Verdict.{breaks_none, no_picture}
use Rattle.mv_commuting.proofs.Facts.{this}
use Rattle.mv_commuting.proofs.Histories.{fine-accepted}
use Rattle.mv_commuting.proofs.Steady.{AllFine, hist, this_fact, this_judged}
use Rattle.mv_commuting.proofs.Turns.{behind_item}

-- none is in force behind a unit: so none was before it
before-none : (us : List (List ℕ)) (u : List ℕ) → (item (items us) u).at ≡ None → vps_behind (items us) ≡ None
unfolding item
before-none us u h = go (is_vps_head (head u)) h
  where
    go : (b : Bool) → cond b (Some (carried_vps (head u) u)) (vps_behind (items us)) ≡ None → vps_behind (items us) ≡ None
    go true h = absurd (let wrong : Path InForce (Some (carried_vps (head u) u)) None = h in cc)
    go false h = h

needs-one : (i : Item) → no_vps i ≡ false → i.at ≡ None → item_slice i ≡ false
unfolding no_vps
needs-one i rule none = go (is_known i) (is_slice_kind i.head.kind) refl (sym (ap (λ at. (is_none at && (is_sps_kind i.head.kind || is_pps_kind i.head.kind || is_slice_kind i.head.kind || nat_lt 0 i.head.layer)) || rest) none) ∙ rule)
  where
    rest : Bool
    rest = is_known i && is_sps_kind i.head.kind && (option_map (names_other_vps (payload i.bytes)) (whole i.at) otherwise false)

    go : (k s : Bool) → is_slice_kind i.head.kind ≡ s → ((true && (is_sps_kind i.head.kind || is_pps_kind i.head.kind || is_slice_kind i.head.kind || nat_lt 0 i.head.layer)) || rest) ≡ false → (k && s) ≡ false
    go false s is h = refl
    go true false is h = refl
    go true true is h = again (is_sps_kind i.head.kind) (is_pps_kind i.head.kind) (sym (ap (λ s. (true && (is_sps_kind i.head.kind || is_pps_kind i.head.kind || s || nat_lt 0 i.head.layer)) || rest) is) ∙ h)
      where
        again : (a b : Bool) → ((true && (a || b || true || nat_lt 0 i.head.layer)) || rest) ≡ false → true ≡ false
        again true b h = h
        again false true h = h
        again false false h = h

abbrev IsNotDecoded : Judged → Type 0
IsNotDecoded d = d.decoded ≡ false

undecoded : (us : List (List ℕ)) (u : List ℕ) → item_slice (this us u).item ≡ false → IsNotDecoded (this_judged us u)
unfolding judged judgement is_decoded fact
undecoded us u none =
    ap (λ b. (b && is_first_segment (this us u).item.opening) && not (is_skipped (look (asked (hist us) (this_fact us u)) (this_fact us u)) (this_fact us u))) none

none-in-force : (us : List (List ℕ)) → AllFine us → vps_behind (items us) ≡ None → All IsNotDecoded (hist us)
unfolding items run all_placed facts history
none-in-force [] fine h = All-nil IsNotDecoded
none-in-force (u ∷ us) fine h =
    let at : (item (items us) u).at ≡ None = sym (behind_item us u) ∙ h in
    All-cons IsNotDecoded (this_judged us u) (hist us) (undecoded us u (here at)) (none-in-force us fine.1 (before-none us u at))
  where
    here : (item (items us) u).at ≡ None → item_slice (this us u).item ≡ false
    here at = unfold placed in needs-one (item (items us) u) (unfold placed in fine.0.vps) at

no-base : (ds : List Judged) → All IsNotDecoded ds → list_any (λ (d : Judged). of_layer 0 d && d.decoded) ds ≡ false
no-base [] h = refl
no-base (d ∷ ds) h =
    ap (λ b. (of_layer 0 d && b) || list_any (λ (d : Judged). of_layer 0 d && d.decoded) ds) (All-head IsNotDecoded d ds h)
    ∙ go (of_layer 0 d)
    ∙ no-base ds (All-tail IsNotDecoded d ds h)
  where
    go : (b : Bool) → ((b && false) || list_any (λ (d : Judged). of_layer 0 d && d.decoded) ds) ≡ list_any (λ (d : Judged). of_layer 0 d && d.decoded) ds
    go true = refl
    go false = refl

pub unset-decodes : (us : List (List ℕ)) → breaks_none (history_of us) ≡ true → last_vps us ≡ None → All (λ (d : Judged). d.decoded ≡ false) (history_of us)
unfolding history_of facts_of
unset-decodes us h none = none-in-force (reverse us) (fine-accepted (reverse us) h) none

pub unset-no_picture : (us : List (List ℕ)) → breaks_none (history_of us) ≡ true → last_vps us ≡ None → no_picture (history_of us) ≡ true
unfolding no_picture
unset-no_picture us h none = ap not (no-base (history_of us) (unset-decodes us h none))
