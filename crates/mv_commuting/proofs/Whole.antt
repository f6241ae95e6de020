-- What is found of an initialised layer in the sequence is what is found in the whole past, where a start of the layer passes.
use Rattle.std.proofs.Common.{◌≡◌, ℕ, ℤ, Bool, true, false, cond, ◌&&◌, ◌||◌, List, [], ◌∷◌, reverse, Option, None, Some, refl, ap, sym, ◌∙◌, filter}
use Rattle.std.specs.Prelude.{All, is_some, option_map, slice_index_or}
use Rattle.std.specs.List.{find}
use Rattle.std.proofs.lemmas.Bool.{and_from, and_parts, or_left, or_right}
use Rattle.std.proofs.lemmas.List.Elements.{All-cons, All-head, All-nil, All-tail}
use Rattle.mv_syntax.specs.Words.{◌otherwise◌}
use Rattle.mv_slice.specs.Numbers.{is_irap}
use Rattle.mv_history.specs.History.{from, run}
use Rattle.mv_pictures.specs.AccessUnits.{all_placed}
use Rattle.mv_pictures.specs.Counts.{may_anchor}
use Rattle.mv_pictures.specs.Facts.{facts}
use Rattle.mv_pictures.specs.History.{facts_of, history, history_of, judged, judgement}
use Rattle.mv_pictures.specs.Items.{items}
use Rattle.mv_pictures.specs.Judged.{Judged, begins, is_picture, kind, of_layer, resets, starts}
use Rattle.mv_pictures.specs.Look.{asked, in_sequence, initialised, look, sequence}
use Rattle.mv_pictures.specs.PictureRules.{is_in_range}
use Rattle.mv_pictures.specs.Verdict.{is_accepted}
use Rattle.mv_commuting.proofs.Alive.{start_picture, starts_decoded}
use Rattle.mv_commuting.proofs.Anchors.{counts-of}
use Rattle.mv_commuting.proofs.More.{initialised-more}
use Rattle.mv_commuting.proofs.Steady.{hist, this_fact, this_judged}

-- a start of layer n passes the test
abbrev Passes : (Judged → Bool) → Judged → Type 0
Passes test d = d.start ≡ true → test d ≡ true

found_whole : (test : Judged → Bool) (n : ℕ) (past : List Judged) → All (Passes test) past → initialised past n ≡ true →
    find test (filter (of_layer n) (from begins past)) ≡ find test (filter (of_layer n) past)
unfolding from
found_whole test n [] all h = refl
found_whole test n (d ∷ past) all h =
    go (begins d) refl (of_layer n d) refl (test d) refl (starts n d) refl (sym (initialised-more d past n) ∙ h) (found_whole test n past (All-tail (Passes test) d past all))
  where
    passes : starts n d ≡ true → test d ≡ true
    passes is = All-head (Passes test) d past all (and_parts (of_layer n d) d.start is).1

    own : starts n d ≡ true → of_layer n d ≡ true
    own is = (and_parts (of_layer n d) d.start is).0

    later : (r : Bool) → cond r false (initialised past n) ≡ true → initialised past n ≡ true
    later true h = absurd (let wrong : true ≡ false = sym h in cc)
    later false h = h

    rest : List Judged
    rest = filter (of_layer n) (from begins past)

    go : (b : Bool) → begins d ≡ b → (o : Bool) → of_layer n d ≡ o → (t : Bool) → test d ≡ t → (s : Bool) → starts n d ≡ s →
        cond s true (cond (resets n d) false (initialised past n)) ≡ true →
        (initialised past n ≡ true → find test rest ≡ find test (filter (of_layer n) past)) →
        find test (filter (of_layer n) (cond b (d ∷ []) (d ∷ from begins past))) ≡ find test (cond o (d ∷ filter (of_layer n) past) (filter (of_layer n) past))
    go true bs o os t ts false ss is more =
        absurd (let wrong : true ≡ false = sym is ∙ ap (λ r. cond r false (initialised past n)) (or_left (begins d) (of_layer n d && d.reset) bs) in cc)
    go true bs false os t ts true ss is more = absurd (let wrong : true ≡ false = sym (own ss) ∙ os in cc)
    go true bs true os false ts true ss is more = absurd (let wrong : true ≡ false = sym (passes ss) ∙ ts in cc)
    go true bs true os true ts true ss is more =
        ap (λ o. find test (cond o (d ∷ []) [])) os ∙ ap (λ t. cond t (Some d) (find test [])) ts ∙ sym (ap (λ t. cond t (Some d) (find test (filter (of_layer n) past))) ts)
    go false bs false os t ts true ss is more = absurd (let wrong : true ≡ false = sym (own ss) ∙ os in cc)
    go false bs false os t ts false ss is more = ap (λ o. find test (cond o (d ∷ rest) rest)) os ∙ more (later (resets n d) is)
    go false bs true os true ts s ss is more =
        ap (λ o. find test (cond o (d ∷ rest) rest)) os ∙ ap (λ t. cond t (Some d) (find test rest)) ts ∙ sym (ap (λ t. cond t (Some d) (find test (filter (of_layer n) past))) ts)
    go false bs true os false ts true ss is more = absurd (let wrong : true ≡ false = sym (passes ss) ∙ ts in cc)
    go false bs true os false ts false ss is more =
        ap (λ o. find test (cond o (d ∷ rest) rest)) os ∙ ap (λ found. cond (test d) (Some d) found) (more (later (resets n d) is))

starts_pictures : (us : List (List ℕ)) → All (λ (d : Judged). d.start ≡ true → is_picture d.fact ≡ true) (hist us)
unfolding items run all_placed facts history
starts_pictures [] = All-nil (λ (d : Judged). d.start ≡ true → is_picture d.fact ≡ true)
starts_pictures (u ∷ us) = All-cons (λ (d : Judged). d.start ≡ true → is_picture d.fact ≡ true) (this_judged us u) (hist us)
    (unfold judged judgement in start_picture (look (asked (hist us) (this_fact us u)) (this_fact us u)) (this_fact us u)) (starts_pictures us)

-- the latest IRAP picture or start
pub led-whole : (us : List (List ℕ)) (n : ℕ) → initialised (history_of us) n ≡ true →
    find (λ (d : Judged). is_picture d.fact && (is_irap (kind d.fact) || d.start)) (in_sequence (history_of us) n)
    ≡ find (λ (d : Judged). is_picture d.fact && (is_irap (kind d.fact) || d.start)) (filter (of_layer n) (history_of us))
unfolding history_of facts_of sequence
led-whole us n h =
    found_whole (λ (d : Judged). is_picture d.fact && (is_irap (kind d.fact) || d.start)) n (hist (reverse us))
    (λ k x low start. and_from (is_picture (slice_index_or (hist (reverse us)) k x).fact) (is_irap (kind (slice_index_or (hist (reverse us)) k x).fact) || (slice_index_or (hist (reverse us)) k x).start)
    (starts_pictures (reverse us) k x low start)
    (or_right (is_irap (kind (slice_index_or (hist (reverse us)) k x).fact)) (slice_index_or (hist (reverse us)) k x).start start))
    h

starts_decoded_of : (us : List (List ℕ)) → All (λ (d : Judged). d.start ≡ true → d.decoded ≡ true) (history_of us)
unfolding history_of facts_of
starts_decoded_of us = starts_decoded (reverse us)

counted : (d : Judged) → (d.start ≡ true → d.decoded ≡ true) → (d.decoded ≡ true → (option_map is_in_range d.count otherwise false) ≡ true) →
    d.start ≡ true → (is_some d.count && (d.start || may_anchor d.fact)) ≡ true
counted d decodes ranges start = and_from (is_some d.count) (d.start || may_anchor d.fact) (some d.count (ranges (decodes start))) (or_left d.start (may_anchor d.fact) start)
  where
    some : (c : Option ℤ) → (option_map is_in_range c otherwise false) ≡ true → is_some c ≡ true
    some None h = absurd (let wrong : true ≡ false = sym h in cc)
    some (Some c) h = refl

-- the anchor
pub anchor-whole : (us : List (List ℕ)) (n : ℕ) → is_accepted us ≡ true → initialised (history_of us) n ≡ true →
    find (λ (d : Judged). is_some d.count && (d.start || may_anchor d.fact)) (in_sequence (history_of us) n)
    ≡ find (λ (d : Judged). is_some d.count && (d.start || may_anchor d.fact)) (filter (of_layer n) (history_of us))
unfolding sequence
anchor-whole us n accepted h =
    found_whole (λ (d : Judged). is_some d.count && (d.start || may_anchor d.fact)) n (history_of us)
    (λ k x low. counted (slice_index_or (history_of us) k x) (starts_decoded_of us k x low) (counts-of us accepted k x low))
    h
