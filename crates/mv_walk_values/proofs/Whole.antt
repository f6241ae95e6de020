-- What is kept, made and shown once the picture in the making is whole are the values of its terms.
use Rattle.std.proofs.Common.{◌≡◌, ℕ, ◌-◌, ◌<◌, ◌≤◌, ℤ, Bool, true, false, cond, List, [], ◌∷◌, filter, get_or, length, Option, Some, None, refl, sym, ap, ◌∙◌, subst, arith}
use Rattle.std.specs.Prelude.{nat_eq, slice_set}
use Rattle.std.specs.List.{find}
use Rattle.std.proofs.lemmas.Bool.{eq-eqb, eqb-true}
use Rattle.std.proofs.lemmas.List.{get_or-set_other, get_or-set_same}
use Rattle.std.proofs.lemmas.List.Elements.{All-head}
use Rattle.mv_history.specs.History.{Throughout, from}
use Rattle.mv_dpb.specs.declared.shown.Shown.{Shown}
use Rattle.mv_dpb.specs.Waiting.{WaitingValue, with_picture as with_waiting}
use Rattle.mv_pictures.specs.History.{judged}
use Rattle.mv_pictures.specs.Judged.{Judged, au, begins, is_picture, layer, of_layer}
use Rattle.mv_pictures.specs.Look.{in_sequence, sequence}
use Rattle.mv_pictures.specs.Output.{is_output}
use Rattle.mv_commuting.specs.HeldOneMore.{held_of}
use Rattle.mv_commuting.proofs.HeldMore.{begins_starts, starts_decode}
use Rattle.mv_rebuild.specs.Parts.{Making, Part}
use Rattle.mv_walk_laws.proofs.Behind.{plain-begins}
use Rattle.mv_walk_layer.specs.LayerValue.{LayerValue, no_pictures, with_picture}
use Rattle.mv_walk_values.specs.Coming.{IsComing}
use Rattle.mv_walk_values.specs.Holding.{HoldsValues}
use Rattle.mv_walk_values.specs.InMaking.{IsInMaking, MadeValue, made_in}
use Rattle.mv_walk_values.specs.InTime.{ShowsInTime}
use Rattle.mv_walk_values.specs.Orderly.{IsOrderly}
use Rattle.mv_walk_values.specs.Showing.{ShowsValues, latest_sequence}
use Rattle.mv_walk_values.specs.Standing.{ValuesStand}
use Rattle.mv_walk_values.specs.Timely.{IsTimely}
use Rattle.mv_walk_values.specs.Values.{parts_of, term_of, value_of}
use Rattle.mv_walk_values.proofs.Continued.{Splits, decoded_layer, splits, undecoded}
use Rattle.mv_walk_values.proofs.FirstFacts.{sequence_by}
use Rattle.mv_walk_values.proofs.Holding.{holds_whole}
use Rattle.mv_walk_values.proofs.InTime.{in_time_comes}
use Rattle.mv_walk_values.proofs.Near.{before_it}
use Rattle.mv_walk_values.proofs.Referring.{LatestHeld, latest_held}
use Rattle.mv_walk_values.proofs.Terms.{value_of_parts}

-- ---- The latest picture, where each unit is judged by those before it

abbrev AreJudged : List Judged → Type 0
AreJudged = Throughout (λ before (d : Judged). d ≡ judged before d.fact)

begun_decoded : (past : List Judged) (d : Judged) → d ≡ judged past d.fact → begins d ≡ true → d.decoded ≡ true
begun_decoded past d is b = ap (λ (d : Judged). d.decoded) is ∙ starts_decode past d.fact (begins_starts past d.fact (sym (ap begins is) ∙ b))

found_latest : (past : List Judged) (it : Judged) → IsOrderly past → AreJudged past → find (λ (d : Judged). is_picture d.fact) past ≡ Some it → it.decoded ≡ true →
    find (λ (d : Judged). d.decoded) (filter (of_layer (layer it.fact)) (from begins past)) ≡ Some it
unfolding from
found_latest [] it orderly judgements h decoded = absurd (let wrong : None ≡ Some it = h in cc)
found_latest (x ∷ past) it orderly judgements h decoded = go (is_picture x.fact) refl h (λ more. found_latest past it (before_it x past orderly) judgements.1 more decoded)
  where
    first : Judged → List Judged → Option Judged
    first y ys = find (λ (d : Judged). d.decoded) (filter (of_layer (layer y.fact)) ys)

    top : (ys : List Judged) → x.decoded ≡ true → first x (x ∷ ys) ≡ Some x
    top ys is =
        ap (λ b. find (λ (d : Judged). d.decoded) (cond b (x ∷ filter (of_layer (layer x.fact)) ys) (filter (of_layer (layer x.fact)) ys))) (eq-eqb (layer x.fact) (layer x.fact) refl)
        ∙ ap (λ b. cond b (Some x) (first x ys)) is

    either : (b : Bool) → x.decoded ≡ true → first x (cond b (x ∷ []) (x ∷ from begins past)) ≡ Some x
    either true is = top [] is
    either false is = top (from begins past) is

    skip : (ys : List Judged) → x.decoded ≡ false → first it (x ∷ ys) ≡ first it ys
    skip ys none = by (of_layer (layer it.fact) x)
      where
        by : (b : Bool) → find (λ (d : Judged). d.decoded) (cond b (x ∷ filter (of_layer (layer it.fact)) ys) (filter (of_layer (layer it.fact)) ys)) ≡ first it ys
        by true = ap (λ b. cond b (Some x) (first it ys)) none
        by false = refl

    calm : x.decoded ≡ false → begins x ≡ false
    calm none = by (begins x) refl
      where
        by : (b : Bool) → begins x ≡ b → b ≡ false
        by false is = refl
        by true is = absurd (let wrong : true ≡ false = sym (begun_decoded past x judgements.0 is) ∙ none in cc)

    go : (b : Bool) → is_picture x.fact ≡ b → cond b (Some x) (find (λ (d : Judged). is_picture d.fact) past) ≡ Some it →
        (find (λ (d : Judged). is_picture d.fact) past ≡ Some it → first it (from begins past) ≡ Some it) → first it (cond (begins x) (x ∷ []) (x ∷ from begins past)) ≡ Some it
    go true is found further =
        let same : x ≡ it = (let both : Some x ≡ Some it = found in cc) in
        subst (λ y. first y (cond (begins x) (x ∷ []) (x ∷ from begins past)) ≡ Some y) same (either (begins x) (ap (λ (d : Judged). d.decoded) same ∙ decoded))
    go false is found further =
        let none : x.decoded ≡ false = undecoded x (All-head (λ (d : Judged). d.decoded ≡ true → is_picture d.fact ≡ true) x past orderly.pictures) is in
        ap (λ b. first it (cond b (x ∷ []) (x ∷ from begins past))) (calm none) ∙ skip (from begins past) none ∙ further found

-- it is of the latest sequence
latest_numbered : (past : List Judged) (it : Judged) → AreJudged past → find (λ (d : Judged). is_picture d.fact) past ≡ Some it → it.sequence ≡ latest_sequence past
latest_numbered [] it judgements h = absurd (let wrong : None ≡ Some it = h in cc)
latest_numbered (x ∷ past) it judgements h = go (is_picture x.fact) refl h (latest_numbered past it judgements.1)
  where
    go : (b : Bool) → is_picture x.fact ≡ b → cond b (Some x) (find (λ (d : Judged). is_picture d.fact) past) ≡ Some it →
        (find (λ (d : Judged). is_picture d.fact) past ≡ Some it → it.sequence ≡ latest_sequence past) → it.sequence ≡ latest_sequence (x ∷ past)
    go true is found further =
        let same : x ≡ it = (let both : Some x ≡ Some it = found in cc) in
        ap (λ (d : Judged). d.sequence) (sym same) ∙ ap (λ (d : Judged). d.sequence) judgements.0 ∙ sequence_by past x.fact is ∙ ap (λ y. latest_sequence (y ∷ past)) (sym judgements.0)
    go false is found further =
        further found
        ∙ ap (λ b. length (cond b (x ∷ filter begins past) (filter begins past)) - 1) (sym (ap begins judgements.0 ∙ plain-begins past x.fact is))

-- ---- The picture in the making is whole

-- where it isn't put out
pub whole_unshown : {W P : Type 0} (meaning : Making W P) (o : ℕ) (past : List Judged) (layers : List (LayerValue P)) (m : MadeValue W) (q : Option (WaitingValue P)) (shown : List (Shown × P)) →
    ValuesStand meaning o past layers (Some m) q shown → m.output ≡ false → ShowsValues meaning.picture o past false q shown
whole_unshown meaning o past layers m q shown values none = subst (λ b. ShowsValues meaning.picture o past b q shown) none values.output

module _ {W P : Type 0} (meaning : Making W P) (o : ℕ) (past : List Judged) (layers : List (LayerValue P)) (m : MadeValue W) (q : Option (WaitingValue P)) (shown : List (Shown × P)) (pic : P)
    (orderly : IsOrderly past) (timely : IsTimely past) (pic_is : (ps : List (Part P)) → meaning.stands m.work ps → pic ≡ meaning.picture ps) (values : ValuesStand meaning o past layers (Some m) q shown) where
  made : IsInMaking meaning o past m
  made = values.made

  its_value : pic ≡ value_of meaning.picture past made.it
  its_value = pic_is (parts_of meaning.picture (term_of past made.it)) made.work_stands ∙ sym (value_of_parts meaning.picture past made.it)

  -- where it is, it is the latest output picture
  pub whole_coming : m.output ≡ true → IsComing meaning.picture o past m.shown m.au pic
  whole_coming put =
      record {
        it = made.it;
        rest = filter (is_output o) parts.rest;
        outputs_are = parts.outputs_are ∙ ap (λ b. cond b (made.it ∷ filter (is_output o) parts.rest) (filter (is_output o) parts.rest)) (sym made.output_is ∙ put);
        of_latest = latest_numbered past made.it timely.judgements made.latest;
        told_is = made.shown_is;
        au_is = made.au_is;
        value_is = its_value;
      }
    where
      parts : Splits o past made.it
      parts = splits o past made.it orderly made.latest

  module _ (all : length layers ≡ 64) (low : m.shown.layer < 64) where
    its_layer : m.shown.layer ≡ layer made.it.fact
    its_layer = ap (λ (s : Shown). s.layer) made.shown_is ∙ decoded_layer past made.it

    held_it : LatestHeld [] (in_sequence past (layer made.it.fact)) made.it
    held_it = latest_held past (layer made.it.fact) made.it (unfold sequence in found_latest past made.it orderly timely.judgements made.latest made.decoded)

    made_there : (n : ℕ) (b : Bool) → nat_eq m.shown.layer n ≡ b → made_in (Some m) n ≡ cond b (Some (m.shown.count, m.au)) None
    made_there n b is = ap (λ b. cond b (Some (m.shown.count, m.au)) None) is

    after : List (LayerValue P)
    after = slice_set layers m.shown.layer (with_picture m.shown.count m.au pic (get_or layers m.shown.layer no_pictures))

    own_holds : HoldsValues meaning.picture (with_picture m.shown.count m.au pic (get_or layers m.shown.layer no_pictures)) past m.shown.layer None
    own_holds =
        holds_whole meaning.picture (get_or layers m.shown.layer no_pictures) past m.shown.layer (m.shown.count, m.au) m.shown.count m.au pic (record { it = made.it; long = held_it.long }) held_it.rest
        (ap (held_of past) its_layer ∙ held_it.held_is) its_value
        (subst (λ (x : Option (ℤ × ℕ)). HoldsValues meaning.picture (get_or layers m.shown.layer no_pictures) past m.shown.layer x) (made_there m.shown.layer true (eq-eqb m.shown.layer m.shown.layer refl)) (values.held m.shown.layer low))

    each_holds : (n : ℕ) → n < 64 → HoldsValues meaning.picture (get_or after n no_pictures) past n None
    unfolding after
    each_holds n lt = go (nat_eq m.shown.layer n) refl
      where
        go : (b : Bool) → nat_eq m.shown.layer n ≡ b → HoldsValues meaning.picture (get_or after n no_pictures) past n None
        go true is =
            subst (λ k. HoldsValues meaning.picture (get_or after k no_pictures) past k None) (eqb-true m.shown.layer n is)
            (subst (λ (l : LayerValue P). HoldsValues meaning.picture l past m.shown.layer None)
            (sym (get_or-set_same layers m.shown.layer (with_picture m.shown.count m.au pic (get_or layers m.shown.layer no_pictures)) no_pictures (let le : m.shown.layer < length layers = omega (arith, low, all) in le)))
            own_holds)
        go false is =
            subst (λ (l : LayerValue P). HoldsValues meaning.picture l past n None)
            (sym (get_or-set_other layers m.shown.layer n (with_picture m.shown.count m.au pic (get_or layers m.shown.layer no_pictures)) no_pictures
            (λ same. let wrong : true ≡ false = sym (eq-eqb m.shown.layer n (sym same)) ∙ is in cc)))
            (subst (λ (x : Option (ℤ × ℕ)). HoldsValues meaning.picture (get_or layers n no_pictures) past n x) (made_there n false is) (values.held n lt))

    pub whole_stands : (new : Option (WaitingValue P)) → ShowsValues meaning.picture o past false new shown →
        ValuesStand meaning o past (slice_set layers m.shown.layer (with_picture m.shown.count m.au pic (get_or layers m.shown.layer no_pictures))) None new shown
    unfolding after
    whole_stands new shows = record { held = each_holds; made = tt; output = shows }

    -- where it isn't put out, and where it comes to those that wait
    pub whole_unput : (whole unit : ℕ) → m.output ≡ false → ShowsInTime meaning.picture o past m.output whole unit q shown →
        ValuesStand meaning o past (slice_set layers m.shown.layer (with_picture m.shown.count m.au pic (get_or layers m.shown.layer no_pictures))) None q shown × ShowsInTime meaning.picture o past false whole unit q shown
    whole_unput whole unit none in_time = (whole_stands q (whole_unshown meaning o past layers m q shown values none), subst (λ b. ShowsInTime meaning.picture o past b whole unit q shown) none in_time)

    pub whole_put : (whole unit : ℕ) (w : WaitingValue P) → m.output ≡ true → whole ≤ m.au → unit ≤ m.au → ShowsInTime meaning.picture o past m.output whole unit (Some w) shown →
        ValuesStand meaning o past (slice_set layers m.shown.layer (with_picture m.shown.count m.au pic (get_or layers m.shown.layer no_pictures))) None (Some (with_waiting m.shown m.au pic w)) shown
        × ShowsInTime meaning.picture o past false whole unit (Some (with_waiting m.shown m.au pic w)) shown
    whole_put whole unit w put complete within in_time = (whole_stands (Some (with_waiting m.shown m.au pic w)) time.shows, time)
      where
        coming : IsComing meaning.picture o past m.shown m.au pic
        coming = whole_coming put

        time : ShowsInTime meaning.picture o past false whole unit (Some (with_waiting m.shown m.au pic w)) shown
        time =
            in_time_comes meaning.picture o past whole unit w shown coming.it coming.rest m.shown m.au pic timely coming.outputs_are coming.of_latest coming.told_is coming.au_is coming.value_is
            (let le : whole ≤ au coming.it.fact = omega (arith, complete, coming.au_is) in le) (let le : unit ≤ au coming.it.fact = omega (arith, within, coming.au_is) in le)
            (subst (λ b. ShowsInTime meaning.picture o past b whole unit (Some w) shown) put in_time)
