-- What is kept of a layer stands for the history with one unit more.
use Rattle.std.proofs.Common.{◌≡◌, ℕ, ℤ, pos, nat_eq, Bool, true, false, cond, not, ◌&&◌, ◌||◌, List, [], ◌∷◌, ◌++◌, filter, map, Option, Some, None, refl, sym, ap, ap₂, ◌∙◌, subst, arith}
use Rattle.std.specs.Prelude.{is_some, option_map, Result, Ok, Err}
use Rattle.std.specs.List.{enumerate_from, filter_map}
use Rattle.std.proofs.lemmas.Bool.{and_parts, eq-eqb}
use Rattle.std.proofs.lemmas.List.{append-nil, map-append}
use Rattle.std.proofs.lemmas.List.Elements.{All-nil}
use Rattle.mv_syntax.specs.Words.{◌otherwise◌}
use Rattle.mv_history.specs.History.{from}
use Rattle.mv_rules.specs.declared.rule.Rule.{Rule}
use Rattle.mv_rules.specs.declared.rule.Rule.TheVariants.{PocRange}
use Rattle.mv_dpb.specs.declared.held.Keep.{Keep}
use Rattle.mv_pictures.specs.Facts.{Fact}
use Rattle.mv_pictures.specs.Items.{is_first_segment}
use Rattle.mv_pictures.specs.Judged.{Judged, au, begins, is_base, is_picture, is_slice, layer, of_layer}
use Rattle.mv_pictures.specs.Look.{Look, asked, in_sequence, look, sequence}
use Rattle.mv_pictures.specs.Starts.{is_anew, is_decoded, is_idr_or_bla, is_sequence_start, is_skipped, is_start}
use Rattle.mv_pictures.specs.Counts.{anchor, count, may_anchor}
use Rattle.mv_pictures.specs.Held.{Held, held, held_behind, longs, names}
use Rattle.mv_pictures.specs.History.{judged, judgement}
use Rattle.mv_pictures.specs.PictureRules.{is_in_range}
use Rattle.mv_commuting.specs.HeldOneMore.{held_of, marked_by, names_held, unmarked}
use Rattle.mv_commuting.proofs.Alive.{start_decoded}
use Rattle.mv_commuting.proofs.HeldMore.{begins_starts, layer-held, layers-held, starts_decode}
use Rattle.mv_commuting.proofs.Latest.{anchor-more, latest-more}
use Rattle.mv_commuting.proofs.More.{in_sequence-more}
use Rattle.mv_commuting.proofs.NoPicture.{anchor-same, held-same}
use Rattle.mv_rps.specs.Asked.{anchor_after, counted, taken, within_range}
use Rattle.mv_rps.specs.Resolving.{kept_of}
use Rattle.mv_rps.specs.Standing.{AreApart, AreCounted, asked_of, kept_by_name, set_for, told}
use Rattle.mv_rps.specs.Standing as in_buffer
use Rattle.mv_rps.proofs.AnchorLaws.{anchor_decoded, anchor_start}
use Rattle.mv_rps.proofs.StandLaws.{kept_told}
use Rattle.mv_walk_layer.specs.LayerValue.{LatestValue, LayerValue, no_pictures, told_held, with_count, with_decoded, with_picture}
use Rattle.mv_walk_layer.specs.Standing.{IsDecodedAnchor, IsSound, Stands, answer, asked_within, broken, counted_or, in_making, latest_decoded, told_of, told_of_fact, told_of_kept}
use Rattle.mv_walk_layer.proofs.Counting.{after-within, counted-base, counted-decoded, counted-start, counted-within, start-any}
use Rattle.mv_walk_layer.proofs.Holding.{apart-held, counted-held, told-decoded}

-- ---- Judgements

picture_slice : (p : Fact) → is_picture p ≡ true → is_slice p ≡ true
picture_slice p h = (and_parts (is_slice p) (is_first_segment p.placed.item.opening) h).0

decoded_picture : (l : Look) (p : Fact) → is_decoded l p ≡ true → is_picture p ≡ true
unfolding is_decoded
decoded_picture l p h = (and_parts (is_picture p) (not (is_skipped l p)) h).0

-- a picture is judged by what is asked of the past
judged_is : (past : List Judged) (p : Fact) → is_picture p ≡ true → judged past p ≡ judgement (look past p) p
unfolding judged asked
judged_is past p h = ap (λ b. judgement (look (cond b past []) p) p) (picture_slice p h)

fact_is : (past : List Judged) (p : Fact) → (judged past p).fact ≡ p
unfolding judged judgement
fact_is past p = refl

own_layer : (past : List Judged) (p : Fact) (n : ℕ) → of_layer n (judged past p) ≡ nat_eq (layer p) n
own_layer past p n = ap (λ (f : Fact). nat_eq (layer f) n) (fact_is past p)

same_layer : (n : ℕ) → nat_eq n n ≡ true
same_layer n = eq-eqb n n refl

decoded_is : (past : List Judged) (p : Fact) → is_picture p ≡ true → (judged past p).decoded ≡ is_decoded (look past p) p
unfolding judgement
decoded_is past p h = ap (λ (d : Judged). d.decoded) (judged_is past p h)

start_is : (past : List Judged) (p : Fact) → is_picture p ≡ true → (judged past p).start ≡ is_start (look past p) p
unfolding judgement
start_is past p h = ap (λ (d : Judged). d.start) (judged_is past p h)

count_is : (past : List Judged) (p : Fact) → is_picture p ≡ true → (judged past p).count ≡ count (look past p) p
unfolding judgement
count_is past p h = ap (λ (d : Judged). d.count) (judged_is past p h)

names_are : (past : List Judged) (p : Fact) → is_picture p ≡ true → (judged past p).names ≡ names (look past p) p
unfolding judgement
names_are past p h = ap (λ (d : Judged). d.names) (judged_is past p h)

longs_are : (past : List Judged) (p : Fact) → is_picture p ≡ true → (judged past p).longs ≡ longs (look past p) p
unfolding judgement
longs_are past p h = ap (λ (d : Judged). d.longs) (judged_is past p h)

-- ---- Units that change nothing

record Leaves (n : ℕ) (d : Judged) : Type 0 where
  begins_not : begins d ≡ false
  decoded_not : (of_layer n d && d.decoded) ≡ false
  anchors_not : (of_layer n d && (is_some d.count && (d.start || may_anchor d.fact))) ≡ false

held_left : (past : List Judged) (p : Fact) (n : ℕ) → Leaves n (judged past p) → held_of (judged past p ∷ past) n ≡ held_of past n
held_left past p n here = go (of_layer n (judged past p)) refl
  where
    go : (o : Bool) → of_layer n (judged past p) ≡ o → held_of (judged past p ∷ past) n ≡ held_of past n
    go true is =
        layer-held past p n is
        ∙ ap (λ b. cond b (unmarked (judged past p) ∷ cond (judged past p).start [] (map (marked_by (judged past p)) (filter (names_held (judged past p)) (held_of past n)))) (held_of past n))
        (sym (ap (λ o. o && (judged past p).decoded) is) ∙ here.decoded_not)
    go false is = layers-held past p n is ∙ ap (λ b. cond b [] (held_of past n)) here.begins_not

latest_left : (past : List Judged) (p : Fact) (n : ℕ) → begins (judged past p) ≡ false → (of_layer n (judged past p) && (judged past p).decoded) ≡ false →
    latest_decoded (judged past p ∷ past) n ≡ latest_decoded past n
latest_left past p n begins_not decoded_not =
    latest-more (λ (d : Judged). d.decoded) (judged past p) past n
    ∙ ap (λ b. cond b (Some (judged past p)) (cond (begins (judged past p)) None (latest_decoded past n))) decoded_not
    ∙ ap (λ b. cond b None (latest_decoded past n)) begins_not

anchor_left : (past : List Judged) (p q : Fact) (n : ℕ) → layer q ≡ n → Leaves n (judged past p) → anchor (look (judged past p ∷ past) q) ≡ anchor (look past q)
anchor_left past p q n is here =
    anchor-more (judged past p) past q
    ∙ ap (λ m. cond (of_layer m (judged past p) && (is_some (judged past p).count && ((judged past p).start || may_anchor (judged past p).fact))) (judged past p).count (cond (begins (judged past p)) None (anchor (look past q)))) is
    ∙ ap (λ b. cond b (judged past p).count (cond (begins (judged past p)) None (anchor (look past q)))) here.anchors_not
    ∙ ap (λ b. cond b None (anchor (look past q))) here.begins_not

leaves : {P : Type 0} (l : LayerValue P) (past : List Judged) (p : Fact) (n : ℕ) (making : Option (ℤ × ℕ)) → Leaves n (judged past p) → Stands l past n making → Stands l (judged past p ∷ past) n making
leaves l past p n making here stands =
    let same : held_of (judged past p ∷ past) n ≡ held_of past n = held_left past p n here in
    record {
      counts = λ q is. anchor_left past p q n is here ∙ stands.counts q is;
      held = ap told same ∙ stands.held;
      latest = ap (option_map told_of) (latest_left past p n here.begins_not here.decoded_not) ∙ stands.latest;
      sound = subst IsSound (sym same) stands.sound;
    }

never : (a b : Bool) → b ≡ false → (a && b) ≡ false
never true b h = h
never false b h = refl

-- what isn't the first segment of a picture
no_begin : (past : List Judged) (p : Fact) → is_picture p ≡ false → begins (judged past p) ≡ false
unfolding judged judgement is_sequence_start
no_begin past p h =
    ap (λ b. nat_eq (layer p) 0 && ((nat_eq (layer p) 0 && b) && (is_idr_or_bla p || is_anew (look (asked past p) p)))) h
    ∙ ap (λ b. nat_eq (layer p) 0 && (b && (is_idr_or_bla p || is_anew (look (asked past p) p)))) (never (nat_eq (layer p) 0) false refl)
    ∙ never (nat_eq (layer p) 0) false refl

no_decoded : (past : List Judged) (p : Fact) → is_picture p ≡ false → (judged past p).decoded ≡ false
unfolding judged judgement is_decoded
no_decoded past p h = ap (λ b. b && not (is_skipped (look (asked past p) p) p)) h

pub no-picture : {P : Type 0} (l : LayerValue P) (past : List Judged) (p : Fact) (n : ℕ) (making : Option (ℤ × ℕ)) → is_picture p ≡ false → Stands l past n making → Stands l (judged past p ∷ past) n making
no-picture l past p n making h stands =
    let same : held_of (judged past p ∷ past) n ≡ held_of past n = held-same past p n h in
    record {
      counts = λ q is. anchor-same past p q h ∙ stands.counts q is;
      held = ap told same ∙ stands.held;
      latest = ap (option_map told_of) (latest_left past p n (no_begin past p h) (never (of_layer n (judged past p)) (judged past p).decoded (no_decoded past p h))) ∙ stands.latest;
      sound = subst IsSound (sym same) stands.sound;
    }

-- a unit of another layer that starts no sequence
pub other-layer : {P : Type 0} (l : LayerValue P) (past : List Judged) (p : Fact) (n : ℕ) (making : Option (ℤ × ℕ)) → nat_eq (layer p) n ≡ false → begins (judged past p) ≡ false → Stands l past n making → Stands l (judged past p ∷ past) n making
other-layer l past p n making other calm =
    let is : of_layer n (judged past p) ≡ false = own_layer past p n ∙ other in
    leaves l past p n making (record {
      begins_not = calm;
      decoded_not = ap (λ o. o && (judged past p).decoded) is;
      anchors_not = ap (λ o. o && (is_some (judged past p).count && ((judged past p).start || may_anchor (judged past p).fact))) is;
    })

-- a picture of the layer that isn't decoded
undecoded_calm : (past : List Judged) (p : Fact) → (judged past p).decoded ≡ false → begins (judged past p) ≡ false
undecoded_calm past p h = go (begins (judged past p)) refl
  where
    go : (b : Bool) → begins (judged past p) ≡ b → b ≡ false
    go false is = refl
    go true is = absurd (let wrong : true ≡ false = sym (starts_decode past p (begins_starts past p is)) ∙ h in cc)

pub undecoded : {P : Type 0} (l : LayerValue P) (past : List Judged) (p : Fact) (n : ℕ) (making : Option (ℤ × ℕ)) → (judged past p).decoded ≡ false → IsDecodedAnchor (judged past p) → Stands l past n making → Stands l (judged past p ∷ past) n making
undecoded l past p n making h anchors =
    leaves l past p n making (record {
      begins_not = undecoded_calm past p h;
      decoded_not = never (of_layer n (judged past p)) (judged past p).decoded h;
      anchors_not = never (of_layer n (judged past p)) (is_some (judged past p).count && ((judged past p).start || may_anchor (judged past p).fact)) (go (is_some (judged past p).count) refl ((judged past p).start || may_anchor (judged past p).fact) refl);
    })
  where
    go : (s : Bool) → is_some (judged past p).count ≡ s → (m : Bool) → ((judged past p).start || may_anchor (judged past p).fact) ≡ m → (s && m) ≡ false
    go false is m ms = refl
    go true is false ms = refl
    go true is true ms = absurd (let wrong : true ≡ false = sym (anchors is ms) ∙ h in cc)

-- ---- A sequence starts

no_held : IsSound []
no_held = record { counted = All-nil (λ (h : Held). (option_map is_in_range h.it.count otherwise false) ≡ true); falls = tt; few = omega arith }

pub forgotten : {P : Type 0} (past : List Judged) (p : Fact) (n : ℕ) → nat_eq (layer p) n ≡ false → begins (judged past p) ≡ true → Stands {P = P} no_pictures (judged past p ∷ past) n None
forgotten {P} past p n other begun =
    let is : of_layer n (judged past p) ≡ false = own_layer past p n ∙ other in
    let none : held_of (judged past p ∷ past) n ≡ [] = layers-held past p n is ∙ ap (λ b. cond b [] (held_of past n)) begun in
    record {
      counts = λ q at.
          anchor-more (judged past p) past q
          ∙ ap (λ m. cond (of_layer m (judged past p) && (is_some (judged past p).count && ((judged past p).start || may_anchor (judged past p).fact))) (judged past p).count (cond (begins (judged past p)) None (anchor (look past q)))) at
          ∙ ap (λ o. cond (o && (is_some (judged past p).count && ((judged past p).start || may_anchor (judged past p).fact))) (judged past p).count (cond (begins (judged past p)) None (anchor (look past q)))) is
          ∙ ap (λ b. cond b None (anchor (look past q))) begun;
      held = ap told none;
      latest =
          ap (option_map told_of)
          (latest-more (λ (d : Judged). d.decoded) (judged past p) past n
          ∙ ap (λ o. cond (o && (judged past p).decoded) (Some (judged past p)) (cond (begins (judged past p)) None (latest_decoded past n))) is
          ∙ ap (λ b. cond b None (latest_decoded past n)) begun);
      sound = subst IsSound (sym none) no_held;
    }

-- ---- A picture is decoded

-- what is answered as a count is the picture's count
answered : (l : Look) (p : Fact) (c : ℤ) → answer l p ≡ Ok c → count l p ≡ Some c
answered l p c h = go (broken l p) (count l p) h
  where
    go : (o : Option Rule) (n : Option ℤ) → counted_or o n ≡ Ok c → n ≡ Some c
    go (Some rule) n h = absurd (let wrong : Err rule ≡ Ok c = h in cc)
    go None (Some n) h = let same : n ≡ c = (let is : Ok n ≡ Ok c = h in cc) in ap (λ n. Some n) same
    go None None h = absurd (let wrong : Err PocRange ≡ Ok c = h in cc)

-- the picture as it is held right behind itself
in_the_making : (past : List Judged) (p : Fact) (c : ℤ) → is_picture p ≡ true → count (look past p) p ≡ Some c → in_buffer.told_of (unmarked (judged past p)) ∷ [] ≡ in_making (Some (c, au p))
in_the_making past p c picture is =
    ap₂ (λ (n : Option ℤ) (f : Fact). record { count = n otherwise pos 0; au = au f; long = false } ∷ []) (count_is past p picture ∙ is) (fact_is past p)

-- the units of its layer behind it
own_behind : (past : List Judged) (p q : Fact) → is_picture p ≡ true → layer q ≡ layer p → (look (judged past p ∷ past) q).own ≡ judgement (look past p) p ∷ cond (begins (judged past p)) [] (in_sequence past (layer p))
unfolding look
own_behind past p q picture same =
    ap (in_sequence (judged past p ∷ past)) same
    ∙ in_sequence-more (judged past p) past (layer p)
    ∙ ap (λ o. cond o (judged past p ∷ cond (begins (judged past p)) [] (in_sequence past (layer p))) (cond (begins (judged past p)) [] (in_sequence past (layer p)))) (own_layer past p (layer p) ∙ same_layer (layer p))
    ∙ ap (λ d. d ∷ cond (begins (judged past p)) [] (in_sequence past (layer p))) (judged_is past p picture)

own_is : (past : List Judged) (p : Fact) → (look past p).own ≡ in_sequence past (layer p)
unfolding look
own_is past p = refl

-- the anchor behind a start, and behind another decoded picture
anchor_at_start : (past : List Judged) (p q : Fact) (a : Option ℤ) (c : ℤ) → is_start (look past p) p ≡ true → layer q ≡ layer p → counted a (asked_within (look past p) p) ≡ Ok c →
    anchor (look (judged past p ∷ past) q) ≡ anchor_after a (asked_within (look past p) p)
anchor_at_start past p q a c start same h =
    sym (anchor_start (look past p) (look (judged past p ∷ past) q) p c (cond (begins (judged past p)) [] (in_sequence past (layer p))) start told_c (own_behind past p q picture same))
    ∙ ap (taken (anchor (look past p)) (asked_of (look past p) p)) told_c
    ∙ ap (λ s. cond (s || may_anchor p) (Some c) (anchor (look past p))) start
    ∙ sym (ap (λ s. cond (s || may_anchor p) (Some c) a) start)
    ∙ sym (ap (taken a (asked_of (look past p) p)) asked_c)
    ∙ sym (after-within a (look past p) p)
  where
    picture : is_picture p ≡ true
    picture = decoded_picture (look past p) p (start_decoded (look past p) p start)

    asked_c : counted a (asked_of (look past p) p) ≡ Ok c
    asked_c = sym (counted-within a (look past p) p) ∙ h

    told_c : counted (anchor (look past p)) (asked_of (look past p) p) ≡ Ok c
    told_c = start-any (anchor (look past p)) a (look past p) p start ∙ asked_c

no_start_calm : (past : List Judged) (p : Fact) → is_picture p ≡ true → is_start (look past p) p ≡ false → begins (judged past p) ≡ false
no_start_calm past p picture h = go (begins (judged past p)) refl
  where
    go : (b : Bool) → begins (judged past p) ≡ b → b ≡ false
    go false is = refl
    go true is = absurd (let wrong : true ≡ false = sym (begins_starts past p is) ∙ start_is past p picture ∙ h in cc)

anchor_at_decoded : (past : List Judged) (p q : Fact) (a : Option ℤ) (c : ℤ) → is_decoded (look past p) p ≡ true → is_start (look past p) p ≡ false → layer q ≡ layer p → anchor (look past p) ≡ a →
    counted a (asked_within (look past p) p) ≡ Ok c → anchor (look (judged past p ∷ past) q) ≡ anchor_after a (asked_within (look past p) p)
anchor_at_decoded past p q a c decoded start same is h =
    sym (anchor_decoded (look past p) (look (judged past p ∷ past) q) p c decoded
    (ap (λ a. counted a (asked_of (look past p) p)) is ∙ sym (counted-within a (look past p) p) ∙ h)
    (own_behind past p q picture same ∙ ap (λ b. judgement (look past p) p ∷ cond b [] (in_sequence past (layer p))) (no_start_calm past p picture start) ∙ ap (λ own. judgement (look past p) p ∷ own) (sym (own_is past p))))
    ∙ ap (λ a. anchor_after a (asked_of (look past p) p)) is
    ∙ sym (after-within a (look past p) p)
  where
    picture : is_picture p ≡ true
    picture = decoded_picture (look past p) p decoded

-- it is the latest decoded picture
latest_at : (past : List Judged) (p : Fact) (latest : LatestValue) → is_decoded (look past p) p ≡ true → told_of_kept latest ≡ told_of_fact p →
    option_map told_of (latest_decoded (judged past p ∷ past) (layer p)) ≡ option_map told_of_kept (Some latest)
latest_at past p latest decoded is =
    ap (option_map told_of)
    (latest-more (λ (d : Judged). d.decoded) (judged past p) past (layer p)
    ∙ ap₂ (λ a b. cond (a && b) (Some (judged past p)) (cond (begins (judged past p)) None (latest_decoded past (layer p))))
    (own_layer past p (layer p) ∙ same_layer (layer p)) (decoded_is past p picture ∙ decoded))
    ∙ ap (λ (f : Fact). Some (told_of_fact f)) (fact_is past p)
    ∙ ap (λ t. Some t) (sym is)
  where
    picture : is_picture p ≡ true
    picture = decoded_picture (look past p) p decoded

-- what is held behind it
held_at : (past : List Judged) (p : Fact) (s : Bool) → is_decoded (look past p) p ≡ true → is_start (look past p) p ≡ s →
    held_of (judged past p ∷ past) (layer p) ≡ unmarked (judged past p) ∷ cond s [] (map (marked_by (judged past p)) (filter (names_held (judged past p)) (held_of past (layer p))))
held_at past p s decoded start =
    layer-held past p (layer p) (own_layer past p (layer p) ∙ same_layer (layer p))
    ∙ ap₂ (λ a b. cond a (unmarked (judged past p) ∷ cond b [] (map (marked_by (judged past p)) (filter (names_held (judged past p)) (held_of past (layer p))))) (held_of past (layer p)))
    (decoded_is past p picture ∙ decoded) (start_is past p picture ∙ start)
  where
    picture : is_picture p ≡ true
    picture = decoded_picture (look past p) p decoded

pub start-step : {P : Type 0} (l : LayerValue P) (past : List Judged) (p : Fact) (c : ℤ) (keep : List Keep) (latest : LatestValue) →
    is_start (look past p) p ≡ true → counted l.counts (asked_within (look past p) p) ≡ Ok c → told_of_kept latest ≡ told_of_fact p → IsSound (held_of (judged past p ∷ past) (layer p)) →
    Stands (with_decoded true keep latest (with_count (asked_within (look past p) p) l)) (judged past p ∷ past) (layer p) (Some (c, au p))
start-step l past p c keep latest start h is sound =
    let decoded : is_decoded (look past p) p ≡ true = start_decoded (look past p) p start in
    let picture : is_picture p ≡ true = decoded_picture (look past p) p decoded in
    let counts_it : count (look past p) p ≡ Some c = answered (look past p) p c (sym (counted-start l.counts (look past p) p start decoded) ∙ h) in
    record {
      counts = λ q same. anchor_at_start past p q l.counts c start same h;
      held = ap told (held_at past p true decoded start) ∙ in_the_making past p c picture counts_it;
      latest = latest_at past p latest decoded is;
      sound = sound;
    }

pub held-past : (past : List Judged) (p : Fact) → is_start (look past p) p ≡ false → held (look past p) p ≡ held_of past (layer p)
unfolding held look
held-past past p start = ap (λ b. cond b [] (held_of past (layer p))) start

pub decoded-step : {P : Type 0} (l : LayerValue P) (past : List Judged) (p : Fact) (c : ℤ) (keep : List Keep) (latest : LatestValue) →
    Stands l past (layer p) None → is_decoded (look past p) p ≡ true → is_start (look past p) p ≡ false → counted l.counts (asked_within (look past p) p) ≡ Ok c →
    keep ≡ kept_of (set_for (look past p) p) (told_held l) → told_of_kept latest ≡ told_of_fact p → IsSound (held_of (judged past p ∷ past) (layer p)) →
    Stands (with_decoded false keep latest (with_count (asked_within (look past p) p) l)) (judged past p ∷ past) (layer p) (Some (c, au p))
decoded-step {P} l past p c keep latest stands decoded start h keeps is sound =
    record {
      counts = λ q same. anchor_at_decoded past p q l.counts c decoded start same (stands.counts p refl) h;
      held =
          ap told (held_at past p false decoded start)
          ∙ told-decoded (judged past p) (held_of past (layer p)) keep l.buffer same_held named
          ∙ ap (λ made. told_held (with_decoded false keep latest l) ++ made) (in_the_making past p c picture (answered (look past p) p c answers));
      latest = latest_at past p latest decoded is;
      sound = sound;
    }
  where
    picture : is_picture p ≡ true
    picture = decoded_picture (look past p) p decoded

    answers : answer (look past p) p ≡ Ok c
    answers = sym (counted-decoded (look past p) p decoded) ∙ ap (λ a. counted a (asked_within (look past p) p)) (stands.counts p refl) ∙ h

    same_held : told (held_of past (layer p)) ≡ told_held l
    same_held = stands.held ∙ append-nil (told_held l)

    found : held (look past p) p ≡ held_of past (layer p)
    found = held-past past p start

    sound_found : IsSound (held (look past p) p)
    sound_found = subst IsSound (sym found) stands.sound

    named : keep ≡ filter_map (kept_by_name (judged past p).names (judged past p).longs) (enumerate_from 0 (told (held_of past (layer p))))
    named =
        keeps
        ∙ ap (kept_of (set_for (look past p) p)) (sym same_held ∙ ap told (sym found))
        ∙ kept_told (look past p) p decoded (counted-held (held (look past p) p) sound_found) (apart-held (held (look past p) p) sound_found.falls)
        ∙ ap (λ hs. filter_map (kept_by_name (names (look past p) p) (longs (look past p) p)) (enumerate_from 0 (told hs))) found
        ∙ ap₂ (λ ns ls. filter_map (kept_by_name ns ls) (enumerate_from 0 (told (held_of past (layer p))))) (sym (names_are past p picture)) (sym (longs_are past p picture))

-- ---- A picture is whole

pub whole-step : {P : Type 0} (l : LayerValue P) (past : List Judged) (n : ℕ) (c : ℤ) (unit : ℕ) (pic : P) → Stands l past n (Some (c, unit)) → Stands (with_picture c unit pic l) past n None
whole-step l past n c unit pic stands = record {
  counts = stands.counts;
  held =
      stands.held
      ∙ sym (map-append (λ s. s.told) l.buffer (record { told = record { count = c; au = unit; long = false }; picture = pic } ∷ []))
      ∙ sym (append-nil (told_held (with_picture c unit pic l)));
  latest = stands.latest;
  sound = stands.sound;
}

-- ---- A base picture that isn't decoded is counted, and is no anchor

pub skipped-base : {P : Type 0} (l : LayerValue P) (past : List Judged) (p : Fact) (making : Option (ℤ × ℕ)) → is_base p ≡ true → (judged past p).decoded ≡ false → IsDecodedAnchor (judged past p) →
    Stands l past (layer p) making → Stands (with_count (asked_within (look past p) p) l) (judged past p ∷ past) (layer p) making
skipped-base l past p making base h anchors stands =
    let after : Stands l (judged past p ∷ past) (layer p) making = undecoded l past p (layer p) making h anchors stands in
    record {
      counts = λ q is. after.counts q is ∙ sym counts_same;
      held = after.held;
      latest = after.latest;
      sound = after.sound;
    }
  where
    picture : is_picture p ≡ true
    picture = (and_parts (nat_eq (layer p) 0) (is_picture p) base).1

    -- what is told as a count within range is the count
    ranged : (o : Option ℤ) (c : ℤ) → within_range o ≡ Ok c → o ≡ Some c
    ranged None c h = absurd (let wrong : Err PocRange ≡ Ok c = h in cc)
    ranged (Some n) c h = inside (is_in_range n) h
      where
        inside : (b : Bool) → cond b (Ok n) (Err PocRange) ≡ Ok c → Some n ≡ Some c
        inside false h = absurd (let wrong : Err PocRange ≡ Ok c = h in cc)
        inside true h = let same : n ≡ c = (let is : Ok n ≡ Ok c = h in cc) in ap (λ n. Some n) same

    no_anchor : (c : ℤ) → count (look past p) p ≡ Some c → (is_start (look past p) p || may_anchor p) ≡ false
    no_anchor c is = go (is_start (look past p) p || may_anchor p) refl
      where
        go : (b : Bool) → (is_start (look past p) p || may_anchor p) ≡ b → b ≡ false
        go false is_b = refl
        go true is_b =
            absurd (let wrong : true ≡ false =
            sym (anchors (ap (λ (o : Option ℤ). is_some o) (count_is past p picture ∙ is)) (ap₂ (λ s (f : Fact). s || may_anchor f) (start_is past p picture) (fact_is past p) ∙ is_b)) ∙ h in cc)

    counts_same : anchor_after l.counts (asked_within (look past p) p) ≡ l.counts
    counts_same = go (counted l.counts (asked_within (look past p) p)) refl
      where
        is_counted : counted l.counts (asked_within (look past p) p) ≡ within_range (count (look past p) p)
        is_counted = ap (λ a. counted a (asked_within (look past p) p)) (sym (stands.counts p refl)) ∙ counted-base (look past p) p base

        go : (r : Result ℤ Rule) → counted l.counts (asked_within (look past p) p) ≡ r → taken l.counts (asked_within (look past p) p) r ≡ l.counts
        go (Err rule) is = refl
        go (Ok c) is = ap (λ b. cond b (Some c) l.counts) (no_anchor c (ranged (count (look past p) p) c (sym is_counted ∙ is)))

-- ---- Nothing is kept of a stream without units

pub none-yet : {P : Type 0} (n : ℕ) → Stands {P = P} no_pictures [] n None
unfolding look anchor sequence from held_behind
none-yet n = record {
  counts = λ q is. refl;
  held = refl;
  latest = refl;
  sound = no_held;
}
