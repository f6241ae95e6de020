-- What later pictures may take as their anchor is decoded, and in an accepted stream its count is in range.
use Rattle.std.proofs.Common.{◌≡◌, ℕ, ℤ, Bool, true, false, cond, not, ◌&&◌, ◌||◌, List, [], ◌∷◌, reverse, Option, None, Some, refl, ap, sym, ◌∙◌}
use Rattle.std.specs.Prelude.{All, is_some, nat_eq, option_and_then, option_map}
use Rattle.std.specs.List.{find, list_any}
use Rattle.std.proofs.lemmas.Bool.{and_parts, eqb-true, not-false}
use Rattle.std.proofs.lemmas.List.Elements.{All-cons, All-filter, All-head, All-nil, All-tail}
use Rattle.mv_syntax.specs.Words.{◌otherwise◌}
use Rattle.mv_history.specs.History.{from, run}
use Rattle.mv_pictures.specs.AccessUnits.{all_placed, tid}
use Rattle.mv_pictures.specs.Counts.{anchor, count, lsb, may_anchor, nearest, start_count}
use Rattle.mv_pictures.specs.Facts.{Fact, fact, facts}
use Rattle.mv_pictures.specs.History.{facts_of, history, history_of, judged, judgement}
use Rattle.mv_pictures.specs.Items.{items, is_first_segment}
use Rattle.mv_pictures.specs.Judged.{Judged, begins, is_base, is_layer_end, is_picture, is_slice, kind, layer, of_layer, starts}
use Rattle.mv_pictures.specs.Kinds.{is_radl, is_rasl, is_sub_layer_non_reference}
use Rattle.mv_pictures.specs.Look.{Look, asked, in_sequence, initialised, look, sequence}
use Rattle.mv_pictures.specs.PictureRules.{is_in_range, poc_range}
use Rattle.mv_pictures.specs.Rules.{picture_cases}
use Rattle.mv_pictures.specs.SliceFields.{max_lsb}
use Rattle.mv_pictures.specs.Starts.{follows_start, is_decoded, is_idr_or_bla, is_reset, starts_layer, is_sequence_start, is_skipped, is_start}
use Rattle.mv_pictures.specs.Verdict.{breaks_none, is_accepted, no_picture}
use Rattle.mv_commuting.proofs.Alive.{start_decoded}
use Rattle.mv_commuting.proofs.Closures.{find_all}
use Rattle.mv_commuting.proofs.HeldMore.{begins_starts}
use Rattle.mv_commuting.proofs.Histories.{AllNone, BreaksNone, all_none, breaks_none-at, breaks_none-of}
use Rattle.mv_commuting.proofs.More.{initialised-more}
use Rattle.mv_commuting.proofs.Seats.{is_base_picture, some_start, starts_first}
use Rattle.mv_commuting.proofs.Steady.{hist, this_fact, this_judged}

-- ---- Layer 0 is initialised from the first base picture on

base_reset : (past : List Judged) (p : Fact) → of_layer 0 (judged past p) ≡ true → (judged past p).reset ≡ false
unfolding judged judgement is_reset
base_reset past p base = ap (λ b. not b && (is_layer_end p || (is_picture p && is_idr_or_bla p && (look (asked past p) p).here && not (is_start (look (asked past p) p) p)))) base

base_ready : (us : List (List ℕ)) → list_any begins (hist us) ≡ true → initialised (hist us) 0 ≡ true
unfolding items run all_placed facts history
base_ready [] h = absurd (let wrong : true ≡ false = sym h in cc)
base_ready (u ∷ us) h = initialised-more (this_judged us u) (hist us) 0 ∙ go (begins (this_judged us u)) refl (starts 0 (this_judged us u)) refl h (base_ready us)
  where
    calm : (o : Bool) → of_layer 0 (this_judged us u) ≡ o → (o && (this_judged us u).reset) ≡ false
    calm false is = refl
    calm true is = base_reset (hist us) (this_fact us u) is

    started : begins (this_judged us u) ≡ true → starts 0 (this_judged us u) ≡ true
    started is =
        ap (λ b. b && (this_judged us u).start) (and_parts (of_layer 0 (this_judged us u)) (this_judged us u).seq is).0
        ∙ begins_starts (hist us) (this_fact us u) is

    go : (b : Bool) → begins (this_judged us u) ≡ b → (s : Bool) → starts 0 (this_judged us u) ≡ s → (b || list_any begins (hist us)) ≡ true → (list_any begins (hist us) ≡ true → initialised (hist us) 0 ≡ true) →
        cond s true (cond (b || (of_layer 0 (this_judged us u) && (this_judged us u).reset)) false (initialised (hist us) 0)) ≡ true
    go b is true start h rest = refl
    go true is false start h rest = absurd (let wrong : true ≡ false = sym (started is) ∙ start in cc)
    go false is false start h rest = ap (λ r. cond r false (initialised (hist us) 0)) (calm (of_layer 0 (this_judged us u)) refl) ∙ rest h

-- a base picture that starts no sequence finds it initialised
base_here : (us : List (List ℕ)) (u : List ℕ) → is_base (this_fact us u) ≡ true → is_sequence_start (look (asked (hist us) (this_fact us u)) (this_fact us u)) (this_fact us u) ≡ false →
    (look (asked (hist us) (this_fact us u)) (this_fact us u)).here ≡ true
unfolding look asked fact
base_here us u base not_start =
    ap (λ b. initialised (cond b (hist us) []) (layer (this_fact us u))) slice
    ∙ ap (initialised (hist us)) (eqb-true (layer (this_fact us u)) 0 parts.0)
    ∙ base_ready us (some_start us (some (list_any is_base_picture (hist us)) refl))
  where
    parts : (nat_eq (layer (this_fact us u)) 0 ≡ true) × (is_picture (this_fact us u) ≡ true)
    parts = and_parts (nat_eq (layer (this_fact us u)) 0) (is_picture (this_fact us u)) base

    slice : is_slice (this_fact us u) ≡ true
    slice = (and_parts (is_slice (this_fact us u)) (is_first_segment (this_fact us u).placed.item.opening) parts.1).0

    some : (b : Bool) → list_any is_base_picture (hist us) ≡ b → b ≡ true
    some true is = refl
    some false is =
        let starts_it : is_sequence_start (look (asked (hist us) (this_fact us u)) (this_fact us u)) (this_fact us u) ≡ true = starts_first us u parts.0 parts.1 is in
        absurd (let wrong : true ≡ false = sym starts_it ∙ not_start in cc)

-- ---- Anchors are decoded

-- of layer 0, initialised, and no start: it is decoded or RASL
skipped_rasl : (l : Look) (p : Fact) → is_base p ≡ true → l.here ≡ true → is_start l p ≡ false → is_rasl (kind p) ≡ false → is_decoded l p ≡ true
unfolding is_decoded is_skipped is_reset
skipped_rasl l p base here start rasl =
    ap (λ b. b && not (not (is_start l p) && (not l.here || (not (nat_eq (layer p) 0) && (is_layer_end p || (is_picture p && is_idr_or_bla p && l.here && not (is_start l p)))) || (is_rasl (kind p) && follows_start l)))) parts.1
    ∙ ap (λ h. not (not (is_start l p) && (not h || (not (nat_eq (layer p) 0) && (is_layer_end p || (is_picture p && is_idr_or_bla p && h && not (is_start l p)))) || (is_rasl (kind p) && follows_start l)))) here
    ∙ ap (λ z. not (not (is_start l p) && (false || (not z && (is_layer_end p || (is_picture p && is_idr_or_bla p && true && not (is_start l p)))) || (is_rasl (kind p) && follows_start l)))) parts.0
    ∙ ap (λ r. not (not (is_start l p) && (false || false || (r && follows_start l)))) rasl
    ∙ go (is_start l p)
  where
    parts : (nat_eq (layer p) 0 ≡ true) × (is_picture p ≡ true)
    parts = and_parts (nat_eq (layer p) 0) (is_picture p) base

    go : (s : Bool) → not (not s && (false || false || false)) ≡ true
    go true = refl
    go false = refl

no_rasl : (p : Fact) → may_anchor p ≡ true → is_rasl (kind p) ≡ false
no_rasl p h = go (nat_eq (tid p.placed) 0) (is_rasl (kind p)) h
  where
    go : (t r : Bool) → (t && not (r || is_radl (kind p) || is_sub_layer_non_reference (kind p))) ≡ true → r ≡ false
    go t false h = refl
    go true true h = absurd (let wrong : false ≡ true = h in cc)
    go false true h = absurd (let wrong : false ≡ true = h in cc)

anchor_decoded : (us : List (List ℕ)) (u : List ℕ) (l : Look) (p : Fact) → l ≡ look (asked (hist us) (this_fact us u)) (this_fact us u) → p ≡ this_fact us u →
    is_some (count l p) ≡ true → (is_start l p || may_anchor p) ≡ true → is_decoded l p ≡ true
unfolding count is_start
anchor_decoded us u l p ls ps some may = go (is_start l p) refl (is_decoded l p) refl (is_base p) refl some may
  where
    at_base : is_base p ≡ true → is_start l p ≡ false → may_anchor p ≡ true → is_decoded l p ≡ true
    at_base base start may = skipped_rasl l p base here start (no_rasl p may)
      where
        is_seq : is_sequence_start l p ≡ false
        is_seq = sym (ap (λ b. cond b (is_sequence_start l p) (is_picture p && starts_layer l p)) (and_parts (nat_eq (layer p) 0) (is_picture p) base).0) ∙ start

        here : l.here ≡ true
        here =
            ap (λ (l : Look). l.here) ls
            ∙ base_here us u (ap is_base (sym ps) ∙ base) (ap (λ l. is_sequence_start l (this_fact us u)) (sym ls) ∙ ap (is_sequence_start l) (sym ps) ∙ is_seq)

    go : (s : Bool) → is_start l p ≡ s → (d : Bool) → is_decoded l p ≡ d → (b : Bool) → is_base p ≡ b →
        is_some (cond s (start_count l p) (cond (d || b) (option_map (nearest (max_lsb p) (lsb p)) (anchor l)) None)) ≡ true → (s || may_anchor p) ≡ true → d ≡ true
    go s is true ds b bs some may = refl
    go true is false ds b bs some may = sym ds ∙ start_decoded l p is
    go false is false ds true bs some may = sym ds ∙ at_base bs is may
    go false is false ds false bs some may = absurd (let wrong : false ≡ true = some in cc)

abbrev IsDecodedAnchor : Judged → Type 0
IsDecodedAnchor d = is_some d.count ≡ true → (d.start || may_anchor d.fact) ≡ true → d.decoded ≡ true

this_anchor : (us : List (List ℕ)) (u : List ℕ) → IsDecodedAnchor (this_judged us u)
unfolding judged judgement
this_anchor us u some may =
    anchor_decoded us u (look (asked (hist us) (this_fact us u)) (this_fact us u)) (this_fact us u) refl refl some may

anchors_decoded : (us : List (List ℕ)) → All IsDecodedAnchor (hist us)
unfolding items run all_placed facts history
anchors_decoded [] = All-nil IsDecodedAnchor
anchors_decoded (u ∷ us) = All-cons IsDecodedAnchor (this_judged us u) (hist us) (this_anchor us u) (anchors_decoded us)

-- ---- Counts in range

abbrev pub IsInRange : Judged → Type 0
IsInRange d = d.decoded ≡ true → (option_map is_in_range d.count otherwise false) ≡ true

range_of : (l : Look) (p : Fact) → poc_range l p ≡ false → is_decoded l p ≡ true → (option_map is_in_range (count l p) otherwise false) ≡ true
unfolding poc_range
range_of l p rule decoded =
    not-false (option_map is_in_range (count l p) otherwise false)
    (sym (ap (λ b. b && not (option_map is_in_range (count l p) otherwise false)) decoded) ∙ rule)

this_range : (us : List (List ℕ)) (u : List ℕ) → BreaksNone (hist us) (this_judged us u) → IsInRange (this_judged us u)
unfolding picture_cases judged judgement
this_range us u h =
    let parts = breaks_none-of (hist us) (this_judged us u) h in
    let each_case : AllNone (picture_cases (look (asked (hist us) (this_fact us u)) (this_fact us u)) (this_fact us u)) =
    all_none (picture_cases (look (asked (hist us) (this_fact us u)) (this_fact us u)) (this_fact us u)) parts.of_picture in
    range_of (look (asked (hist us) (this_fact us u)) (this_fact us u)) (this_fact us u) each_case.1.1.1.0

pub counts_in_range : (us : List (List ℕ)) → breaks_none (hist us) ≡ true → All IsInRange (hist us)
unfolding items run all_placed facts history
counts_in_range [] h = All-nil IsInRange
counts_in_range (u ∷ us) h =
    let parts = breaks_none-at (this_judged us u) (hist us) h in
    All-cons IsInRange (this_judged us u) (hist us) (this_range us u parts.0) (counts_in_range us parts.1)

-- ---- In the order of the stream

pub anchors-of : (us : List (List ℕ)) → All (λ (d : Judged). is_some d.count ≡ true → (d.start || may_anchor d.fact) ≡ true → d.decoded ≡ true) (history_of us)
unfolding history_of facts_of
anchors-of us = anchors_decoded (reverse us)

pub counts-of : (us : List (List ℕ)) → is_accepted us ≡ true → All (λ (d : Judged). d.decoded ≡ true → (option_map is_in_range d.count otherwise false) ≡ true) (history_of us)
unfolding is_accepted history_of facts_of
counts-of us h = counts_in_range (reverse us) (and_parts (breaks_none (hist (reverse us))) (not (no_picture (hist (reverse us)))) h).0

pub All-from : {A : Type 0} (P : A → Type 0) (test : A → Bool) (xs : List A) → All P xs → All P (from test xs)
unfolding from
All-from P test [] h = All-nil P
All-from P test (x ∷ xs) h = go (test x) (All-from P test xs (All-tail P x xs h))
  where
    go : (b : Bool) → All P (from test xs) → All P (cond b (x ∷ []) (x ∷ from test xs))
    go true rest = All-cons P x [] (All-head P x xs h) (All-nil P)
    go false rest = All-cons P x (from test xs) (All-head P x xs h) rest

-- what is found as an anchor
anchor_range : (test : Judged → Bool) (ds : List Judged) → ((d : Judged) → test d ≡ true → (is_some d.count && (d.start || may_anchor d.fact)) ≡ true) → All IsDecodedAnchor ds → All IsInRange ds →
    (option_map is_in_range (option_and_then (λ (d : Judged). d.count) (find test ds)) otherwise true) ≡ true
anchor_range test ds tests decoded range = go (find test ds) refl
  where
    either : (c : Option ℤ) → (option_map is_in_range c otherwise false) ≡ true → (option_map is_in_range c otherwise true) ≡ true
    either None h = refl
    either (Some c) h = h

    go : (o : Option Judged) → find test ds ≡ o → (option_map is_in_range (option_and_then (λ (d : Judged). d.count) o) otherwise true) ≡ true
    go None is = refl
    go (Some d) is =
        let found = find_all IsDecodedAnchor test ds d decoded is in
        let within = find_all IsInRange test ds d range is in
        let parts = and_parts (is_some d.count) (d.start || may_anchor d.fact) (tests d found.1) in
        either d.count (within.0 (found.0 parts.0 parts.1))

pub anchor-of : (us : List (List ℕ)) (p : Fact) → is_accepted us ≡ true → (option_map is_in_range (anchor (look (history_of us) p)) otherwise true) ≡ true
unfolding anchor look sequence
anchor-of us p h =
    anchor_range (λ (d : Judged). is_some d.count && (d.start || may_anchor d.fact)) (in_sequence (history_of us) (layer p)) (λ d passes. passes)
    (All-filter (of_layer (layer p)) IsDecodedAnchor (from begins (history_of us)) (All-from IsDecodedAnchor begins (history_of us) (anchors-of us)))
    (All-filter (of_layer (layer p)) IsInRange (from begins (history_of us)) (All-from IsInRange begins (history_of us) (counts-of us h)))
