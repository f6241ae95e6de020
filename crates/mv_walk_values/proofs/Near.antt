-- Of an orderly history: the units of a sequence, the pictures that are held, and the units before a new picture.
use Rattle.std.proofs.Common.{◌≡◌, ℕ, ◌<◌, Bool, true, false, cond, not, ◌&&◌, All, List, [], ◌∷◌, map, reverse, Option, Some, None, refl, sym, ap, ◌∙◌, arith}
use Rattle.std.specs.Prelude.{⊤, nat_eq, option_map}
use Rattle.std.specs.List.{find}
use Rattle.std.proofs.lemmas.Bool.{and_parts, eqb-true}
use Rattle.std.proofs.lemmas.List.Elements.{All-cons, All-filter, All-head, All-nil, All-tail, All-weaker, filter_passes}
use Rattle.mv_syntax.specs.Words.{◌otherwise◌}
use Rattle.mv_history.specs.History.{Throughout, run}
use Rattle.mv_history.proofs.Kept.{All-both}
use Rattle.mv_pictures.specs.AccessUnits.{Placed, all_placed, is_own_picture, layer as placed_layer, orphan_slice}
use Rattle.mv_pictures.specs.Facts.{fact, facts}
use Rattle.mv_pictures.specs.Held.{Held}
use Rattle.mv_pictures.specs.History.{facts_of, history, history_of, judged, judgement}
use Rattle.mv_pictures.specs.Items.{items}
use Rattle.mv_pictures.specs.Items as in_items
use Rattle.mv_pictures.specs.Judged.{Judged, au, begins, in_au, is_picture, is_slice, layer, of_layer}
use Rattle.mv_pictures.specs.Look.{in_sequence, sequence}
use Rattle.mv_pictures.specs.References.{term_in}
use Rattle.mv_pictures.specs.Verdict.{breaks_none}
use Rattle.mv_commuting.specs.HeldOneMore.{held_of}
use Rattle.mv_commuting.specs.Kept.{IsEarlierPicture}
use Rattle.mv_commuting.specs.OneMore.{fact_behind}
use Rattle.mv_commuting.proofs.Anchors.{All-from}
use Rattle.mv_commuting.proofs.Facts.{this}
use Rattle.mv_commuting.proofs.HeldBound.{held_all}
use Rattle.mv_commuting.proofs.Histories.{fine-accepted}
use Rattle.mv_commuting.proofs.Rising.{pictures-rise}
use Rattle.mv_commuting.proofs.Shown.{placed_of_hist}
use Rattle.mv_commuting.proofs.Steady.{AllFine, hist, this_judged}
use Rattle.mv_walk_laws.specs.Streams.{broken_behind}
use Rattle.mv_walk_laws.proofs.Behind.{next-obeys}
use Rattle.mv_walk_values.specs.Orderly.{IsOrderly}
use Rattle.mv_walk_values.specs.Timely.{IsTimely}
use Rattle.mv_walk_values.specs.Values.{is_segment_of, term_of}
use Rattle.mv_walk_values.proofs.Histories.{orderly}
use Rattle.mv_walk_values.proofs.Sequences.{terms_in_sequence}
use Rattle.mv_walk_values.proofs.Timely.{timely}

-- the units before a unit
pub before_it : (e : Judged) (past : List Judged) → IsOrderly (e ∷ past) → IsOrderly past
before_it e past orderly = record {
  numbers = orderly.numbers.1;
  rises = orderly.rises.1;
  pictures = All-tail (λ (d : Judged). d.decoded ≡ true → is_picture d.fact ≡ true) e past orderly.pictures;
  based = orderly.based.1;
}

-- the terms of the units of a layer in the sequence
pub sequence_terms : (past : List Judged) (n : ℕ) → IsOrderly past → All (λ (d : Judged). term_in (in_sequence past n) d ≡ term_of past d) (in_sequence past n)
sequence_terms past n orderly =
    All-weaker (λ (d : Judged). (of_layer n d ≡ true) × HasTerm d) (λ (d : Judged). term_in (in_sequence past n) d ≡ term_of past d)
    (λ d both. ap (λ m. term_in (in_sequence past m) d) (sym (eqb-true (layer d.fact) n both.0)) ∙ both.1) (in_sequence past n)
    (All-both (λ (d : Judged). of_layer n d ≡ true) HasTerm (in_sequence past n) (filter_passes (of_layer n) (sequence past)) (All-filter (of_layer n) HasTerm (sequence past) (terms_in_sequence past orderly)))
  where
    HasTerm : Judged → Type 0
    HasTerm d = term_in (in_sequence past (layer d.fact)) d ≡ term_of past d

-- ---- What holds of the decoded units holds of what is held

pub held_where : (Q : Judged → Type 0) (past : List Judged) (n : ℕ) → All (λ (d : Judged). d.decoded ≡ true → Q d) past → All (λ (h : Held). Q h.it) (held_of past n)
unfolding sequence
held_where Q past n h =
    held_all Q [] (in_sequence past n) (All-filter (of_layer n) (λ (d : Judged). d.decoded ≡ true → Q d) (sequence past) (All-from (λ (d : Judged). d.decoded ≡ true → Q d) begins past h))

-- ---- A new picture has no segment before it

-- a later segment has its picture before it, as the latest one
abbrev HasOwn : List Judged → Judged → Type 0
HasOwn before x =
    is_slice x.fact ≡ true → is_picture x.fact ≡ false → (option_map (is_own_picture x.fact.placed) (find (λ (q : Placed). in_items.is_picture q.item) (map (λ (d : Judged). d.fact.placed) before)) otherwise false) ≡ true

have_own : (us : List (List ℕ)) → AllFine us → Throughout HasOwn (hist us)
unfolding items run all_placed facts history
have_own [] fine = tt
have_own (u ∷ us) fine = (now, have_own us fine.1)
  where
    own : List Placed → Bool
    own ps = option_map (is_own_picture (this us u)) (find (λ (q : Placed). in_items.is_picture q.item) ps) otherwise false

    there : (s p b : Bool) → s ≡ true → p ≡ false → (s && not p && not b) ≡ false → b ≡ true
    there s p true hs hp h = refl
    there s p false hs hp h = absurd (let wrong : true ≡ false = sym (ap (λ s. s && not p && true) hs ∙ ap (λ p. true && not p && true) hp) ∙ h in cc)

    now : HasOwn (hist us) (this_judged us u)
    now = unfold judged judgement fact orphan_slice in λ slice none.
        ap own (placed_of_hist us)
        ∙ there (in_items.is_slice (this us u).item) (in_items.is_picture (this us u).item) (own (all_placed (items us))) slice none fine.0.own

-- where its picture is among earlier ones it is earlier too
found_own : (e x : Judged) (ds : List Judged) → All (IsEarlierPicture e) ds →
    (option_map (λ (q : Placed). nat_eq (placed_layer q) (layer x.fact) && nat_eq q.au (au x.fact)) (find (λ (q : Placed). in_items.is_picture q.item) (map (λ (d : Judged). d.fact.placed) ds)) otherwise false) ≡ true →
    layer x.fact ≡ layer e.fact → au x.fact < au e.fact
found_own e x [] all h same = absurd (let wrong : false ≡ true = h in cc)
found_own e x (d ∷ ds) all h same = go (is_picture d.fact) refl h (λ more. found_own e x ds (All-tail (IsEarlierPicture e) d ds all) more same)
  where
    own : Option Placed → Bool
    own o = option_map (λ (q : Placed). nat_eq (placed_layer q) (layer x.fact) && nat_eq q.au (au x.fact)) o otherwise false

    go : (b : Bool) → is_picture d.fact ≡ b → own (cond b (Some d.fact.placed) (find (λ (q : Placed). in_items.is_picture q.item) (map (λ (d : Judged). d.fact.placed) ds))) ≡ true →
        (own (find (λ (q : Placed). in_items.is_picture q.item) (map (λ (d : Judged). d.fact.placed) ds)) ≡ true → au x.fact < au e.fact) → au x.fact < au e.fact
    go true is h further =
        let both : (nat_eq (layer d.fact) (layer x.fact) ≡ true) × (nat_eq (au d.fact) (au x.fact) ≡ true) = and_parts (nat_eq (layer d.fact) (layer x.fact)) (nat_eq (au d.fact) (au x.fact)) h in
        let less : au d.fact < au e.fact = All-head (IsEarlierPicture e) d ds all is (eqb-true (layer d.fact) (layer x.fact) both.0 ∙ same) in
        let one : au d.fact ≡ au x.fact = eqb-true (au d.fact) (au x.fact) both.1 in
        omega (arith, less, one)
    go false is h further = further h

-- what isn't of a picture's layer and access unit is no segment of it
pub no_segment_of : (d e : Judged) → (is_slice e.fact ≡ true → layer e.fact ≡ layer d.fact → au e.fact ≡ au d.fact → ⊥) → is_segment_of d e ≡ false
no_segment_of d e other = go (is_segment_of d e) refl
  where
    go : (b : Bool) → is_segment_of d e ≡ b → b ≡ false
    go false is = refl
    go true is =
        let parts : (is_slice e.fact ≡ true) × ((of_layer (layer d.fact) e && in_au (au d.fact) e) ≡ true) = and_parts (is_slice e.fact) (of_layer (layer d.fact) e && in_au (au d.fact) e) is in
        let both : (of_layer (layer d.fact) e ≡ true) × (in_au (au d.fact) e ≡ true) = and_parts (of_layer (layer d.fact) e) (in_au (au d.fact) e) parts.1 in
        absurd (other parts.0 (eqb-true (layer e.fact) (layer d.fact) both.0) (eqb-true (au e.fact) (au d.fact) both.1))

fresh_before : (e : Judged) (past : List Judged) → All (IsEarlierPicture e) past → Throughout HasOwn past → All (λ (x : Judged). is_segment_of e x ≡ false) past
unfolding is_own_picture
fresh_before e [] earlier own = All-nil (λ (x : Judged). is_segment_of e x ≡ false)
fresh_before e (x ∷ past) earlier own =
    All-cons (λ (x : Judged). is_segment_of e x ≡ false) x past (no_segment_of e x (λ slice same here. let less : au x.fact < au e.fact = by_kind (is_picture x.fact) refl slice same in omega (arith, less, here)))
    (fresh_before e past (All-tail (IsEarlierPicture e) x past earlier) own.1)
  where
    by_kind : (b : Bool) → is_picture x.fact ≡ b → is_slice x.fact ≡ true → layer x.fact ≡ layer e.fact → au x.fact < au e.fact
    by_kind true is slice same = All-head (IsEarlierPicture e) x past earlier is same
    by_kind false is slice same = found_own e x past (All-tail (IsEarlierPicture e) x past earlier) (own.0 slice is) same

-- the latest unit of a history, of which none breaks a rule, is a picture: none before it is a segment of it
abbrev pub IsFresh : List Judged → Type 0
IsFresh [] = ⊤
IsFresh (e ∷ past) = is_picture e.fact ≡ true → All (λ (x : Judged). is_segment_of e x ≡ false) past

fresh_hist : (us : List (List ℕ)) → breaks_none (hist us) ≡ true → IsFresh (hist us)
unfolding items run all_placed facts history
fresh_hist [] h = tt
fresh_hist (u ∷ us) h = λ new. fresh_before (this_judged us u) (hist us) ((pictures-rise (u ∷ us) (fine-accepted (u ∷ us) h)).0 new) (have_own us (fine-accepted (u ∷ us) h).1)

pub fresh_of : (us : List (List ℕ)) → breaks_none (history_of us) ≡ true → IsFresh (history_of us)
unfolding history_of facts_of
fresh_of us h = fresh_hist (reverse us) h

pub fresh : (us : List (List ℕ)) (u : List ℕ) → breaks_none (history_of us) ≡ true → broken_behind us u ≡ None → is_picture (fact_behind us u) ≡ true →
    All (λ (x : Judged). is_segment_of (judged (history_of us) (fact_behind us u)) x ≡ false) (history_of us)
unfolding judged judgement
fresh us u h none new = next-obeys IsFresh fresh_of us u h none new

-- ---- Behind one unit more

pub next_orderly : (us : List (List ℕ)) (u : List ℕ) → breaks_none (history_of us) ≡ true → broken_behind us u ≡ None → IsOrderly (judged (history_of us) (fact_behind us u) ∷ history_of us)
next_orderly us u h none = next-obeys IsOrderly orderly us u h none

pub next_timely : (us : List (List ℕ)) (u : List ℕ) → breaks_none (history_of us) ≡ true → broken_behind us u ≡ None → IsTimely (judged (history_of us) (fact_behind us u) ∷ history_of us)
next_timely us u h none = next-obeys IsTimely timely us u h none
