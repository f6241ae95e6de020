-- What is kept, made and shown behind a later segment of a picture, and behind a picture that isn't decoded, are the values of its
-- terms.
use Rattle.std.proofs.Common.{◌≡◌, ℕ, ◌-◌, ◌<◌, ◌≤◌, Bool, true, false, cond, ◌&&◌, All, List, [], ◌∷◌, ◌++◌, filter, get_or, length, map, Option, Some, None, refl, sym, ap, ◌∙◌, subst, arith}
use Rattle.std.specs.Prelude.{drop, nat_eq}
use Rattle.std.specs.List.{find}
use Rattle.std.proofs.lemmas.Bool.{and_from, eq-eqb, eqb-true}
use Rattle.std.proofs.lemmas.List.Elements.{All-cons, All-head, All-nil, All-tail, All-weaker}
use Rattle.mv_history.specs.History.{Throughout}
use Rattle.mv_history.specs.Order.{sorted}
use Rattle.mv_history.proofs.Instances.{All-sorted}
use Rattle.mv_history.proofs.Kept.{All-both}
use Rattle.mv_dpb.specs.declared.shown.Shown.{Shown}
use Rattle.mv_dpb.specs.Waiting.{WaitingValue}
use Rattle.mv_pictures.specs.Decoding.{decoded_of}
use Rattle.mv_pictures.specs.Facts.{Fact}
use Rattle.mv_pictures.specs.Held.{Held}
use Rattle.mv_pictures.specs.History.{judged}
use Rattle.mv_pictures.specs.Judged.{Judged, au, begins, in_au, is_picture, is_slice, layer, of_layer}
use Rattle.mv_pictures.specs.Output.{is_before, is_output}
use Rattle.mv_pictures.specs.References.{segment}
use Rattle.mv_commuting.specs.HeldOneMore.{held_of, marked_by, names_held, unmarked}
use Rattle.mv_commuting.specs.Kept.{IsEarlierPicture}
use Rattle.mv_commuting.proofs.HeldBound.{held-layer}
use Rattle.mv_commuting.proofs.HeldMore.{begins_starts, layer-held, layers-held, starts_decode}
use Rattle.mv_commuting.proofs.NoPicture.{held-same}
use Rattle.mv_rebuild.specs.Parts.{Making, Part, has}
use Rattle.mv_rps.proofs.FoundLaws.{All_reverse}
use Rattle.mv_walk_laws.proofs.Behind.{plain-begins, plain-decoded}
use Rattle.mv_walk_layer.specs.LayerValue.{LayerValue, no_pictures}
use Rattle.mv_walk_layer.specs.Standing.{IsSound}
use Rattle.mv_walk_values.specs.Holding.{whole_held}
use Rattle.mv_walk_values.specs.InMaking.{IsInMaking, MadeValue, made_in}
use Rattle.mv_walk_values.specs.Orderly.{IsOrderly}
use Rattle.mv_walk_values.specs.Showing.{ShowsValues, in_order, whole_outputs}
use Rattle.mv_walk_values.specs.Standing.{ValuesStand}
use Rattle.mv_walk_values.specs.Values.{is_segment_of, parts_of, term_of}
use Rattle.mv_walk_values.proofs.Begun.{outputs_where}
use Rattle.mv_walk_values.proofs.Holding.{holds_kept}
use Rattle.mv_walk_values.proofs.Near.{before_it, held_where, no_segment_of}
use Rattle.mv_walk_values.proofs.Orderly.{new_none}
use Rattle.mv_walk_values.proofs.Showing.{same_whole_later, shows_kept}
use Rattle.mv_walk_values.proofs.Terms.{parts_more, shown_same}
use Rattle.mv_walk_values.proofs.Standing.{fact_is, no_output}

-- ---- Which pictures a later segment is no segment of

-- one of an earlier access unit in its layer, or of another layer
other_none : (e d : Judged) → (layer e.fact ≡ layer d.fact → au d.fact < au e.fact) → is_segment_of d e ≡ false
other_none e d earlier = no_segment_of d e (λ slice same here. let less : au d.fact < au e.fact = earlier same in omega (arith, less, here))

-- what is no picture isn't decoded
pub undecoded : (d : Judged) → (d.decoded ≡ true → is_picture d.fact ≡ true) → is_picture d.fact ≡ false → d.decoded ≡ false
undecoded d h none = go d.decoded refl
  where
    go : (b : Bool) → d.decoded ≡ b → b ≡ false
    go false is = refl
    go true is = absurd (let wrong : true ≡ false = sym (h is) ∙ none in cc)

-- the units before the latest picture, and the output pictures by these
pub record Splits (o : ℕ) (past : List Judged) (first : Judged) : Type 0 where
  pub rest : List Judged
  pub earlier : All (IsEarlierPicture first) rest
  pub pictures : All (λ (d : Judged). d.decoded ≡ true → is_picture d.fact ≡ true) rest
  pub outputs_are : filter (is_output o) past ≡ cond (is_output o first) (first ∷ filter (is_output o) rest) (filter (is_output o) rest)

pub splits : (o : ℕ) (past : List Judged) (first : Judged) → IsOrderly past → find (λ (d : Judged). is_picture d.fact) past ≡ Some first → Splits o past first
splits o [] first orderly h = absurd (let wrong : None ≡ Some first = h in cc)
splits o (x ∷ past) first orderly h = go (is_picture x.fact) refl h (splits o past first (before_it x past orderly))
  where
    go : (b : Bool) → is_picture x.fact ≡ b → cond b (Some x) (find (λ (d : Judged). is_picture d.fact) past) ≡ Some first →
        (find (λ (d : Judged). is_picture d.fact) past ≡ Some first → Splits o past first) → Splits o (x ∷ past) first
    go true is found further =
        subst (Splits o (x ∷ past)) (let same : x ≡ first = (let both : Some x ≡ Some first = found in cc) in same)
        (record { rest = past; earlier = orderly.rises.0 is; pictures = All-tail (λ (d : Judged). d.decoded ≡ true → is_picture d.fact ≡ true) x past orderly.pictures; outputs_are = refl })
    go false is found further =
        let more : Splits o past first = further found in
        record {
          rest = more.rest;
          earlier = more.earlier;
          pictures = more.pictures;
          outputs_are =
              ap (λ b. cond b (x ∷ filter (is_output o) past) (filter (is_output o) past)) (no_output o x (undecoded x (All-head (λ (d : Judged). d.decoded ≡ true → is_picture d.fact ≡ true) x past orderly.pictures) is))
              ∙ more.outputs_are;
        }

-- nor of the decoded pictures before its own
earlier_none : (e first : Judged) (ds : List Judged) → All (IsEarlierPicture first) ds → All (λ (d : Judged). d.decoded ≡ true → is_picture d.fact ≡ true) ds → layer e.fact ≡ layer first.fact → au e.fact ≡ au first.fact →
    All (λ (d : Judged). d.decoded ≡ true → is_segment_of d e ≡ false) ds
earlier_none e first ds earlier pictures same here =
    All-weaker (λ (d : Judged). IsEarlierPicture first d × (d.decoded ≡ true → is_picture d.fact ≡ true)) (λ (d : Judged). d.decoded ≡ true → is_segment_of d e ≡ false) one ds
    (All-both (IsEarlierPicture first) (λ (d : Judged). d.decoded ≡ true → is_picture d.fact ≡ true) ds earlier pictures)
  where
    one : (d : Judged) → IsEarlierPicture first d × (d.decoded ≡ true → is_picture d.fact ≡ true) → d.decoded ≡ true → is_segment_of d e ≡ false
    one d both decoded =
        other_none e d (λ own.
        let less : au d.fact < au first.fact = both.0 (both.1 decoded) (sym own ∙ same) in
        omega (arith, less, here))

-- where the latest picture isn't decoded, a segment of it is one of no decoded picture
segment_none : (e : Judged) (past : List Judged) (first : Judged) → IsOrderly past → find (λ (d : Judged). is_picture d.fact) past ≡ Some first → layer e.fact ≡ layer first.fact → au e.fact ≡ au first.fact → first.decoded ≡ false →
    All (λ (d : Judged). d.decoded ≡ true → is_segment_of d e ≡ false) past
segment_none e [] first orderly h same here skipped = absurd (let wrong : None ≡ Some first = h in cc)
segment_none e (x ∷ past) first orderly h same here skipped =
    go (is_picture x.fact) refl h (segment_none e past first (before_it x past orderly))
  where
    go : (b : Bool) → is_picture x.fact ≡ b → cond b (Some x) (find (λ (d : Judged). is_picture d.fact) past) ≡ Some first →
        (find (λ (d : Judged). is_picture d.fact) past ≡ Some first → layer e.fact ≡ layer first.fact → au e.fact ≡ au first.fact → first.decoded ≡ false → All (λ (d : Judged). d.decoded ≡ true → is_segment_of d e ≡ false) past) →
        All (λ (d : Judged). d.decoded ≡ true → is_segment_of d e ≡ false) (x ∷ past)
    go false is found further =
        All-cons (λ (d : Judged). d.decoded ≡ true → is_segment_of d e ≡ false) x past
        (λ decoded. absurd (let wrong : true ≡ false = sym (All-head (λ (d : Judged). d.decoded ≡ true → is_picture d.fact ≡ true) x past orderly.pictures decoded) ∙ is in cc))
        (further found same here skipped)
    go true is found further =
        let it : x ≡ first = (let both : Some x ≡ Some first = found in cc) in
        All-cons (λ (d : Judged). d.decoded ≡ true → is_segment_of d e ≡ false) x past
        (λ decoded. absurd (let wrong : true ≡ false = sym decoded ∙ ap (λ (d : Judged). d.decoded) it ∙ skipped in cc))
        (earlier_none e x past (orderly.rises.0 is) (All-tail (λ (d : Judged). d.decoded ≡ true → is_picture d.fact ≡ true) x past orderly.pictures) (same ∙ ap (λ (d : Judged). layer d.fact) (sym it)) (here ∙ ap (λ (d : Judged). au d.fact) (sym it)))

-- a later segment is a segment of no output picture but its own
pub later_none : (o : ℕ) (past : List Judged) (p : Fact) (first : Judged) (made : Bool) → IsOrderly (judged past p ∷ past) → find (λ (d : Judged). is_picture d.fact) past ≡ Some first → layer p ≡ layer first.fact → au p ≡ au first.fact →
    made ≡ is_output o first → All (λ d. is_segment_of d (judged past p) ≡ false) (in_order o past made)
later_none o past p first made orderly latest same here is =
    All-sorted (λ d. is_segment_of d (judged past p) ≡ false) is_before (whole_outputs o past made) (go made (is_output o first) is parts.outputs_are)
  where
    parts : Splits o past first
    parts = splits o past first (before_it (judged past p) past orderly) latest

    rest : All (λ d. is_segment_of d (judged past p) ≡ false) (filter (is_output o) parts.rest)
    rest =
        outputs_where (λ d. is_segment_of d (judged past p) ≡ false) o parts.rest
        (earlier_none (judged past p) first parts.rest parts.earlier parts.pictures (ap layer (fact_is past p) ∙ same) (ap au (fact_is past p) ∙ here))

    go : (b x : Bool) → b ≡ x → filter (is_output o) past ≡ cond x (first ∷ filter (is_output o) parts.rest) (filter (is_output o) parts.rest) → All (λ d. is_segment_of d (judged past p) ≡ false) (whole_outputs o past b)
    go true true is split = subst (λ ds. All (λ d. is_segment_of d (judged past p) ≡ false) (drop 1 ds)) (sym split) rest
    go false false is split = subst (All (λ d. is_segment_of d (judged past p) ≡ false)) (sym split) rest
    go true false is split = absurd cc
    go false true is split = absurd cc

-- ---- A later segment of the picture in the making

pub decoded_layer : (all : List Judged) (d : Judged) → (decoded_of all d).layer ≡ layer d.fact
unfolding decoded_of
decoded_layer all d = refl

module _ {W P : Type 0} (meaning : Making W P) (o : ℕ) (past : List Judged) (p : Fact) (layers : List (LayerValue P)) (m : MadeValue W) (work : W) (q : Option (WaitingValue P)) (shown : List (Shown × P)) (first : Judged)
    (orderly : IsOrderly (judged past p ∷ past)) (slice : is_slice p ≡ true) (later : is_picture p ≡ false) (latest : find (λ (d : Judged). is_picture d.fact) past ≡ Some first)
    (same : layer p ≡ layer first.fact) (here : au p ≡ au first.fact) (sound : IsSound (held_of past (layer p)))
    (more : (ps : List (Part P)) → meaning.stands m.work ps → meaning.stands work (ps ++ has (segment (judged past p)) ∷ []))
    (values : ValuesStand meaning o past layers (Some m) q shown) where
  was : IsOrderly past
  was = before_it (judged past p) past orderly

  made : IsInMaking meaning o past m
  made = values.made

  it_is : made.it ≡ first
  it_is = let both : Some made.it ≡ Some first = sym made.latest ∙ latest in cc

  e_layer : layer (judged past p).fact ≡ layer first.fact
  e_layer = ap layer (fact_is past p) ∙ same

  e_here : au (judged past p).fact ≡ au first.fact
  e_here = ap au (fact_is past p) ∙ here

  its_segment : is_segment_of made.it (judged past p) ≡ true
  its_segment =
      ap (λ d. is_segment_of d (judged past p)) it_is
      ∙ and_from (is_slice (judged past p).fact) (of_layer (layer first.fact) (judged past p) && in_au (au first.fact) (judged past p)) (ap is_slice (fact_is past p) ∙ slice)
      (and_from (of_layer (layer first.fact) (judged past p)) (in_au (au first.fact) (judged past p)) (eq-eqb (layer (judged past p).fact) (layer first.fact) e_layer) (eq-eqb (au (judged past p).fact) (au first.fact) e_here))

  after : MadeValue W
  after = record { work = work; shown = m.shown; au = m.au; output = m.output }

  made_later : IsInMaking meaning o (judged past p ∷ past) after
  unfolding after
  made_later =
      record {
        it = made.it;
        latest = ap (λ b. cond b (Some (judged past p)) (find (λ (d : Judged). is_picture d.fact) past)) (ap is_picture (fact_is past p) ∙ later) ∙ made.latest;
        decoded = made.decoded;
        work_stands = subst (meaning.stands work) (sym (parts_more meaning.picture (judged past p) made.it past its_segment)) (more (parts_of meaning.picture (term_of past made.it)) made.work_stands);
        shown_is = made.shown_is ∙ shown_same past (judged past p ∷ past) made.it;
        au_is = made.au_is;
        output_is = made.output_is;
      }

  -- of what is held it is a segment of no other
  m_layer : m.shown.layer ≡ layer p
  m_layer = ap (λ (s : Shown). s.layer) made.shown_is ∙ decoded_layer past made.it ∙ ap (λ (d : Judged). layer d.fact) it_is ∙ sym same

  held_within : All (λ (h : Held). au h.it.fact ≤ au (judged past p).fact) (held_of past (layer p))
  held_within =
      held_where (λ d. au d.fact ≤ au (judged past p).fact) past (layer p)
      (All-weaker (λ (d : Judged). au d.fact ≤ au (judged past p).fact) (λ (d : Judged). d.decoded ≡ true → au d.fact ≤ au (judged past p).fact) (λ d le decoded. le) past orderly.numbers.0)

  behind_latest : (hs : List Held) → Throughout (λ before (h : Held). All (λ (g : Held). au g.it.fact < au h.it.fact) before) hs → All (λ (h : Held). au h.it.fact ≤ au (judged past p).fact) hs →
      All (λ (h : Held). is_segment_of h.it (judged past p) ≡ false) (drop 1 hs)
  behind_latest [] falls low = All-nil (λ (h : Held). is_segment_of h.it (judged past p) ≡ false)
  behind_latest (h ∷ hs) falls low =
      All-weaker (λ (g : Held). au g.it.fact < au h.it.fact) (λ (g : Held). is_segment_of g.it (judged past p) ≡ false)
      (λ g less.
      let most : au h.it.fact ≤ au (judged past p).fact = All-head (λ (h : Held). au h.it.fact ≤ au (judged past p).fact) h hs low in
      other_none (judged past p) g.it (λ own. omega (arith, less, most))) hs falls.0

  other_layer : (n : ℕ) → nat_eq (layer p) n ≡ false → All (λ (h : Held). is_segment_of h.it (judged past p) ≡ false) (held_of past n)
  other_layer n other =
      All-weaker (λ (h : Held). of_layer n h.it ≡ true) (λ (h : Held). is_segment_of h.it (judged past p) ≡ false)
      (λ h is. other_none (judged past p) h.it (λ own.
      let one : layer p ≡ n = sym (ap layer (fact_is past p)) ∙ own ∙ eqb-true (layer h.it.fact) n is in
      absurd (let wrong : true ≡ false = sym (eq-eqb (layer p) n one) ∙ other in cc)))
      (held_of past n) (held-layer past n)

  made_there : (n : ℕ) (b : Bool) → nat_eq (layer p) n ≡ b → made_in (Some m) n ≡ cond b (Some (m.shown.count, m.au)) None
  made_there n b is = ap (λ k. cond (nat_eq k n) (Some (m.shown.count, m.au)) None) m_layer ∙ ap (λ b. cond b (Some (m.shown.count, m.au)) None) is

  whole_none : (n : ℕ) (b : Bool) → nat_eq (layer p) n ≡ b → All (λ (h : Held). is_segment_of h.it (judged past p) ≡ false) (whole_held past n (made_in (Some m) n))
  whole_none n false is = subst (λ x. All (λ (h : Held). is_segment_of h.it (judged past p) ≡ false) (whole_held past n x)) (sym (made_there n false is)) (other_layer n is)
  whole_none n true is =
      subst (λ x. All (λ (h : Held). is_segment_of h.it (judged past p) ≡ false) (whole_held past n x)) (sym (made_there n true is))
      (subst (λ k. All (λ (h : Held). is_segment_of h.it (judged past p) ≡ false) (drop 1 (held_of past k))) (eqb-true (layer p) n is) (behind_latest (held_of past (layer p)) sound.falls held_within))

  shows_later : ShowsValues meaning.picture o (judged past p ∷ past) m.output q shown
  shows_later =
      shows_kept meaning.picture o (judged past p) past m.output m.output q shown
      (ap (sorted is_before) (same_whole_later o (judged past p) past m.output (no_output o (judged past p) (plain-decoded past p later))))
      (later_none o past p first m.output orderly latest same here (made.output_is ∙ ap (is_output o) it_is))
      (ap (λ b. length (cond b (judged past p ∷ filter begins past) (filter begins past)) - 1) (plain-begins past p later))
      values.output

  pub later_stands : ValuesStand meaning o (judged past p ∷ past) layers (Some (record { work = work; shown = m.shown; au = m.au; output = m.output })) q shown
  unfolding after
  later_stands =
      record {
        held = λ n low.
            holds_kept meaning.picture (get_or layers n no_pictures) (judged past p) past n (made_in (Some m) n) (held-same past p n later)
            (All_reverse (λ (h : Held). is_segment_of h.it (judged past p) ≡ false) (whole_held past n (made_in (Some m) n)) (whole_none n (nat_eq (layer p) n) refl)) (values.held n low);
        made = made_later;
        output = shows_later;
      }

-- ---- A picture that isn't decoded, and its later segments

pub undecoded_calm : (past : List Judged) (p : Fact) → (judged past p).decoded ≡ false → begins (judged past p) ≡ false
undecoded_calm past p h = go (begins (judged past p)) refl
  where
    go : (b : Bool) → begins (judged past p) ≡ b → b ≡ false
    go false is = refl
    go true is = absurd (let wrong : true ≡ false = sym (starts_decode past p (begins_starts past p is)) ∙ h in cc)

held_undecoded : (past : List Judged) (p : Fact) (n : ℕ) → (judged past p).decoded ≡ false → held_of (judged past p ∷ past) n ≡ held_of past n
held_undecoded past p n h = go (of_layer n (judged past p)) refl
  where
    go : (b : Bool) → of_layer n (judged past p) ≡ b → held_of (judged past p ∷ past) n ≡ held_of past n
    go true is =
        layer-held past p n is
        ∙ ap (λ b. cond b (unmarked (judged past p) ∷ cond (judged past p).start [] (map (marked_by (judged past p)) (filter (names_held (judged past p)) (held_of past n)))) (held_of past n)) h
    go false is = layers-held past p n is ∙ ap (λ b. cond b [] (held_of past n)) (undecoded_calm past p h)

-- where none is in the making, a unit that isn't decoded and is a segment of no decoded picture changes nothing
no_more : {W P : Type 0} (meaning : Making W P) (o : ℕ) (past : List Judged) (p : Fact) (layers : List (LayerValue P)) (q : Option (WaitingValue P)) (shown : List (Shown × P)) → (judged past p).decoded ≡ false →
    All (λ (d : Judged). d.decoded ≡ true → is_segment_of d (judged past p) ≡ false) past → ValuesStand meaning o past layers None q shown → ValuesStand meaning o (judged past p ∷ past) layers None q shown
no_more {W} {P} meaning o past p layers q shown skipped none values =
    record {
      held = λ n low.
          holds_kept meaning.picture (get_or layers n no_pictures) (judged past p) past n None (held_undecoded past p n skipped)
          (All_reverse (λ (h : Held). is_segment_of h.it (judged past p) ≡ false) (held_of past n) (held_where (λ d. is_segment_of d (judged past p) ≡ false) past n none)) (values.held n low);
      made = tt;
      output =
          shows_kept meaning.picture o (judged past p) past false false q shown
          (ap (sorted is_before) (same_whole_later o (judged past p) past false (no_output o (judged past p) skipped)))
          (All-sorted (λ d. is_segment_of d (judged past p) ≡ false) is_before (filter (is_output o) past) (outputs_where (λ d. is_segment_of d (judged past p) ≡ false) o past none))
          (ap (λ b. length (cond b (judged past p ∷ filter begins past) (filter begins past)) - 1) (undecoded_calm past p skipped))
          values.output;
    }

pub skipped_stands : {W P : Type 0} (meaning : Making W P) (o : ℕ) (past : List Judged) (p : Fact) (layers : List (LayerValue P)) (q : Option (WaitingValue P)) (shown : List (Shown × P)) → IsOrderly (judged past p ∷ past) → is_picture p ≡ true →
    (judged past p).decoded ≡ false → ValuesStand meaning o past layers None q shown → ValuesStand meaning o (judged past p ∷ past) layers None q shown
skipped_stands meaning o past p layers q shown orderly new skipped values = no_more meaning o past p layers q shown skipped (new_none (judged past p) past orderly (ap is_picture (fact_is past p) ∙ new)) values

pub passed_stands : {W P : Type 0} (meaning : Making W P) (o : ℕ) (past : List Judged) (p : Fact) (layers : List (LayerValue P)) (q : Option (WaitingValue P)) (shown : List (Shown × P)) (first : Judged) → IsOrderly (judged past p ∷ past) → is_picture p ≡ false →
    find (λ (d : Judged). is_picture d.fact) past ≡ Some first → layer p ≡ layer first.fact → au p ≡ au first.fact → first.decoded ≡ false → ValuesStand meaning o past layers None q shown → ValuesStand meaning o (judged past p ∷ past) layers None q shown
passed_stands meaning o past p layers q shown first orderly later latest same here skipped values =
    no_more meaning o past p layers q shown (plain-decoded past p later)
    (segment_none (judged past p) past first (before_it (judged past p) past orderly) latest (ap layer (fact_is past p) ∙ same) (ap au (fact_is past p) ∙ here) skipped) values
