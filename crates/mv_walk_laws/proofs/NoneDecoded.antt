-- While no base picture is decoded, no picture is.
use Rattle.std.proofs.Common.{◌≡◌, ℕ, Bool, true, false, cond, not, ◌&&◌, ◌||◌, List, [], ◌∷◌, length, reverse, Option, None, Some, refl, ap, sym, subst, ◌∙◌, filter, arith, if◌then◌else◌}
use Rattle.std.specs.Prelude.{All, is_some, nat_eq, option_and_then, option_map, ℤ}
use Rattle.std.specs.List.{find, list_any}
use Rattle.std.proofs.lemmas.Bool.{and_parts, ne_eqb, or_parts}
use Rattle.std.proofs.lemmas.List.{reverse-reverse}
use Rattle.std.proofs.lemmas.List.Elements.{All-cons, All-filter, All-head, All-nil, All-tail}
use Rattle.mv_history.specs.History.{from, run}
use Rattle.mv_syntax.specs.Words.{◌otherwise◌}
use Rattle.mv_pictures.specs.AccessUnits.{all_placed}
use Rattle.mv_pictures.specs.Counts.{anchor, base_count, count, lsb, may_anchor, nearest, start_count}
use Rattle.mv_pictures.specs.Facts.{Fact, facts}
use Rattle.mv_pictures.specs.Held.{has_count}
use Rattle.mv_pictures.specs.History.{facts_of, history, history_of, judged, judgement}
use Rattle.mv_pictures.specs.Items.{items}
use Rattle.mv_pictures.specs.Judged.{Judged, au, begins, in_au, is_base, is_picture, is_slice, layer, of_layer}
use Rattle.mv_pictures.specs.Look.{Look, asked, look, sequence}
use Rattle.mv_pictures.specs.PictureRules.{has_low_bits, poc_mismatch}
use Rattle.mv_pictures.specs.Rules.{picture_cases}
use Rattle.mv_pictures.specs.SliceFields.{max_lsb}
use Rattle.mv_pictures.specs.Starts.{base_of, is_decoded, is_start}
use Rattle.mv_pictures.specs.Verdict.{breaks_none, no_picture}
use Rattle.mv_commuting.proofs.Alive.{start_decoded}
use Rattle.mv_commuting.proofs.Anchors.{All-from, anchors-of}
use Rattle.mv_commuting.proofs.Closures.{find_all}
use Rattle.mv_commuting.proofs.Histories.{AllNone, BreaksNone, all_none, breaks_none-at, breaks_none-of}
use Rattle.mv_commuting.proofs.Steady.{hist, this_fact, this_judged}

abbrev IsNotDecoded : Judged → Type 0
IsNotDecoded d = d.decoded ≡ false

abbrev IsDecodedAnchor : Judged → Type 0
IsDecodedAnchor d = is_some d.count ≡ true → (d.start || may_anchor d.fact) ≡ true → d.decoded ≡ true

-- a unit of layer 0 has no count
abbrev HasNoCount : Judged → Type 0
HasNoCount d = of_layer 0 d ≡ true → d.count ≡ None

-- ---- Without decoded pictures there is no anchor

no_anchor : (l : Look) → All IsNotDecoded l.own → All IsDecodedAnchor l.own → anchor l ≡ None
unfolding anchor
no_anchor l none decoded = go (find (λ (d : Judged). is_some d.count && (d.start || may_anchor d.fact)) l.own) refl
  where
    go : (o : Option Judged) → find (λ (d : Judged). is_some d.count && (d.start || may_anchor d.fact)) l.own ≡ o → option_and_then (λ (d : Judged). d.count) o ≡ None
    go None is = refl
    go (Some d) is =
        let found = find_all IsDecodedAnchor (λ (d : Judged). is_some d.count && (d.start || may_anchor d.fact)) l.own d decoded is in
        let other = find_all IsNotDecoded (λ (d : Judged). is_some d.count && (d.start || may_anchor d.fact)) l.own d none is in
        let parts = and_parts (is_some d.count) (d.start || may_anchor d.fact) found.1 in
        absurd (let wrong : true ≡ false = sym (found.0 parts.0 parts.1) ∙ other.0 in cc)

-- what is no start and has no anchor has no count
no_count : (l : Look) (p : Fact) → is_decoded l p ≡ false → anchor l ≡ None → count l p ≡ None
unfolding count
no_count l p none no_anchor =
    ap (λ a. cond (is_start l p) (start_count l p) (cond (is_decoded l p || is_base p) (option_map (nearest (max_lsb p) (lsb p)) a) None)) no_anchor
    ∙ go (is_start l p) refl (is_decoded l p || is_base p)
  where
    go : (s : Bool) → is_start l p ≡ s → (b : Bool) → cond s (start_count l p) (cond b (option_map (nearest (max_lsb p) (lsb p)) None) None) ≡ None
    go true is b = absurd (let wrong : true ≡ false = sym (start_decoded l p is) ∙ none in cc)
    go false is true = refl
    go false is false = refl

All-asked : (P : Judged → Type 0) (past : List Judged) (p : Fact) → All P past → All P (asked past p)
unfolding asked
All-asked P past p h = go (is_slice p)
  where
    go : (b : Bool) → All P (cond b past [])
    go true = h
    go false = All-nil P

own-all : (P : Judged → Type 0) (past : List Judged) (p : Fact) → All P past → All P (look (asked past p) p).own
unfolding look sequence
own-all P past p h = All-filter (of_layer (layer p)) P (from begins (asked past p)) (All-from P begins (asked past p) (All-asked P past p h))

-- ---- The base picture of an access unit has a count where a picture of another layer is decoded

counted-base : (l : Look) (p : Fact) (past : List Judged) → l.base ≡ find (λ (d : Judged). of_layer 0 d && is_picture d.fact) past → All HasNoCount past →
    nat_eq (layer p) 0 ≡ false → poc_mismatch l p ≡ false → is_decoded l p ≡ true → ⊥
unfolding poc_mismatch base_count base_of
counted-base l p past base none above rule decoded = uncounted (count l p) (same (find (λ (d : Judged). of_layer 0 d && is_picture d.fact) past) refl) matches
  where
    -- it has the count of the base picture
    matches : (option_map (λ c. has_count c (base_count l p)) (count l p) otherwise false) ≡ true
    matches = go (option_map (λ c. has_count c (base_count l p)) (count l p) otherwise false) refl
      where
        go : (b : Bool) → (option_map (λ c. has_count c (base_count l p)) (count l p) otherwise false) ≡ b → b ≡ true
        go true e = refl
        go false e = absurd (let wrong : true ≡ false =
            sym (ap (λ z. true && not z && (true || (is_start l p && not (has_low_bits l p)))) above)
            ∙ sym (ap (λ b. true && not (nat_eq (layer p) 0) && (not b || (is_start l p && not (has_low_bits l p)))) e)
            ∙ sym (ap (λ d. d && not (nat_eq (layer p) 0) && (not (option_map (λ c. has_count c (base_count l p)) (count l p) otherwise false) || (is_start l p && not (has_low_bits l p)))) decoded)
            ∙ rule in cc)

    same : (o : Option Judged) → find (λ (d : Judged). of_layer 0 d && is_picture d.fact) past ≡ o → base_count l p ≡ None
    same o is = ap (λ x. option_and_then (λ (d : Judged). d.count) (option_and_then (λ (d : Judged). if in_au (au p) d then Some d else None) x)) (base ∙ is) ∙ go o is
      where
        go : (o : Option Judged) → find (λ (d : Judged). of_layer 0 d && is_picture d.fact) past ≡ o →
            option_and_then (λ (d : Judged). d.count) (option_and_then (λ (d : Judged). if in_au (au p) d then Some d else None) o) ≡ None
        go None is = refl
        go (Some d) is = either (in_au (au p) d)
          where
            found : HasNoCount d × ((of_layer 0 d && is_picture d.fact) ≡ true)
            found = find_all HasNoCount (λ (d : Judged). of_layer 0 d && is_picture d.fact) past d none is

            either : (b : Bool) → option_and_then (λ (d : Judged). d.count) (cond b (Some d) None) ≡ None
            either true = found.0 (and_parts (of_layer 0 d) (is_picture d.fact) found.1).0
            either false = refl

    uncounted : (c : Option ℤ) → base_count l p ≡ None → (option_map (λ c. has_count c (base_count l p)) c otherwise false) ≡ true → ⊥
    uncounted None none h = let wrong : false ≡ true = h in cc
    uncounted (Some c) none h = let wrong : false ≡ true = sym (ap (has_count c) none) ∙ h in cc

-- ---- One unit more

pub this_rule : (us : List (List ℕ)) (u : List ℕ) → BreaksNone (hist us) (this_judged us u) → poc_mismatch (look (asked (hist us) (this_fact us u)) (this_fact us u)) (this_fact us u) ≡ false
unfolding picture_cases judged judgement
this_rule us u h =
    let parts = breaks_none-of (hist us) (this_judged us u) h in
    let each_case : AllNone (picture_cases (look (asked (hist us) (this_fact us u)) (this_fact us u)) (this_fact us u)) =
    all_none (picture_cases (look (asked (hist us) (this_fact us u)) (this_fact us u)) (this_fact us u)) parts.of_picture in
    each_case.1.1.1.1.0

asked-base : (past : List Judged) (p : Fact) → (look (asked past p) p).base ≡ find (λ (d : Judged). of_layer 0 d && is_picture d.fact) (asked past p)
unfolding look
asked-base past p = refl

anchors : (us : List (List ℕ)) → All IsDecodedAnchor (hist us)
unfolding history_of facts_of
anchors us = subst (λ (vs : List (List ℕ)). All IsDecodedAnchor (hist vs)) (reverse-reverse us) (anchors-of (reverse us))

-- neither decoded, nor with a count in layer 0
step : (us : List (List ℕ)) (u : List ℕ) → BreaksNone (hist us) (this_judged us u) → (of_layer 0 (this_judged us u) && (this_judged us u).decoded) ≡ false →
    All IsNotDecoded (hist us) → All HasNoCount (hist us) → IsNotDecoded (this_judged us u) × HasNoCount (this_judged us u)
unfolding judged judgement
step us u rules base none counts = (undecoded, λ low. no_count l p undecoded (no_anchor l (own-all IsNotDecoded (hist us) p none) (own-all IsDecodedAnchor (hist us) p (anchors us))))
  where
    p : Fact
    p = this_fact us u

    l : Look
    l = look (asked (hist us) p) p

    undecoded : is_decoded l p ≡ false
    undecoded = go (nat_eq (layer p) 0) refl (is_decoded l p) refl base
      where
        go : (z : Bool) → nat_eq (layer p) 0 ≡ z → (d : Bool) → is_decoded l p ≡ d → (z && d) ≡ false → d ≡ false
        go z zs false ds h = refl
        go true zs true ds h = h
        go false zs true ds h = absurd (counted-base l p (asked (hist us) p) (asked-base (hist us) p) (All-asked HasNoCount (hist us) p counts) zs (this_rule us u rules) ds)

abbrev base_decoded : Judged → Bool
base_decoded d = of_layer 0 d && d.decoded

none-all : (us : List (List ℕ)) → breaks_none (hist us) ≡ true → list_any base_decoded (hist us) ≡ false → All IsNotDecoded (hist us) × All HasNoCount (hist us)
unfolding items run all_placed facts history
none-all [] h none = (All-nil IsNotDecoded, All-nil HasNoCount)
none-all (u ∷ us) h none =
    let rules = breaks_none-at (this_judged us u) (hist us) h in
    let parts : (base_decoded (this_judged us u) ≡ false) × (list_any base_decoded (hist us) ≡ false) = or_parts (base_decoded (this_judged us u)) (list_any base_decoded (hist us)) none in
    let rest = none-all us rules.1 parts.1 in
    let here = step us u rules.0 parts.0 rest.0 rest.1 in
    (All-cons IsNotDecoded (this_judged us u) (hist us) here.0 rest.0, All-cons HasNoCount (this_judged us u) (hist us) here.1 rest.1)

pub none-decoded : (us : List (List ℕ)) → breaks_none (history_of us) ≡ true → no_picture (history_of us) ≡ true → All (λ (d : Judged). d.decoded ≡ false) (history_of us)
unfolding history_of facts_of no_picture
none-decoded us h none = (none-all (reverse us) h (not-true (list_any base_decoded (history_of us)) none)).0
  where
    not-true : (b : Bool) → not b ≡ true → b ≡ false
    not-true false h = refl
    not-true true h = sym h

-- ---- By how many pictures are decoded

count_none : (ds : List Judged) → All IsNotDecoded ds → length (filter (λ (d : Judged). d.decoded) ds) ≡ 0
count_none [] h = refl
count_none (d ∷ ds) h =
    ap (λ b. length (cond b (d ∷ filter (λ (d : Judged). d.decoded) ds) (filter (λ (d : Judged). d.decoded) ds))) (All-head IsNotDecoded d ds h)
    ∙ count_none ds (All-tail IsNotDecoded d ds h)

some-counted : (ds : List Judged) → list_any base_decoded ds ≡ true → nat_eq (length (filter (λ (d : Judged). d.decoded) ds)) 0 ≡ false
some-counted [] h = sym h
some-counted (d ∷ ds) h = go (of_layer 0 d) (d.decoded) h (some-counted ds)
  where
    all : List Judged
    all = filter (λ (d : Judged). d.decoded) ds

    go : (z b : Bool) → ((z && b) || list_any base_decoded ds) ≡ true → (list_any base_decoded ds ≡ true → nat_eq (length all) 0 ≡ false) →
        nat_eq (length (cond b (d ∷ all) all)) 0 ≡ false
    go z true h rest = ne_eqb (length (d ∷ all)) 0 (λ e. omega (arith, e))
    go true false h rest = rest h
    go false false h rest = rest h

-- no base picture was decoded exactly where no picture was
pub no_picture-counted : (us : List (List ℕ)) → breaks_none (history_of us) ≡ true → no_picture (history_of us) ≡ nat_eq (length (filter (λ (d : Judged). d.decoded) (history_of us))) 0
unfolding no_picture
no_picture-counted us h = go (list_any base_decoded (history_of us)) refl
  where
    none : list_any base_decoded (history_of us) ≡ false → All IsNotDecoded (history_of us)
    none is = none-decoded us h (unfold no_picture in ap not is)

    go : (b : Bool) → list_any base_decoded (history_of us) ≡ b → not b ≡ nat_eq (length (filter (λ (d : Judged). d.decoded) (history_of us))) 0
    go true is = sym (some-counted (history_of us) is)
    go false is = sym (ap (λ n. nat_eq n 0) (count_none (history_of us) (none is)))
