-- Which sets serve a later segment, by the latest picture of its access unit.
use Rattle.std.proofs.Common.{◌≡◌, ℕ, Bool, true, false, cond, not, ◌&&◌, List, [], ◌∷◌, Option, Some, None, option_map, refl, ap, ◌∙◌, if◌then◌else◌}
use Rattle.std.specs.Prelude.{nat_eq, option_and_then}
use Rattle.std.specs.List.{find}
use Rattle.std.proofs.lemmas.Bool.{eq-eqb}
use Rattle.mv_syntax.specs.Words.{◌otherwise◌}
use Rattle.mv_units.specs.declared.head.UnitHead.{UnitHead}
use Rattle.mv_vps.specs.Vps.{WholeVps}
use Rattle.mv_slice.specs.declared.opening.SliceOpening.{SliceOpening}
use Rattle.mv_pictures.specs.Items.{is_picture as item_picture, is_slice as item_slice}
use Rattle.mv_pictures.specs.AccessUnits.{Placed, is_own_picture}
use Rattle.mv_pictures.specs.Facts.{Fact, Sets, named_sets, no_sets, own_picture, pps_id, same_pps_id, served_by, sets_of}
use Rattle.mv_pictures.specs.Judged.{Judged, in_au, is_picture}
use Rattle.mv_tried.specs.Finer.{facts_in}
use Rattle.mv_walk_segment.specs.OpenValue.{OpenValue}
use Rattle.mv_walk_segment.specs.Open.{IsOpen, serves}
use Rattle.mv_walk_segment.specs.Serving.{IsSegment, sets_by}

-- the latest fact that passes a test is that of the latest judgement
pub find-fact : (test : Fact → Bool) (past : List Judged) → find test (facts_in past) ≡ option_map (λ (d : Judged). d.fact) (find (λ (d : Judged). test d.fact) past)
find-fact test [] = refl
find-fact test (d ∷ past) = go (test d.fact) (find-fact test past)
  where
    go : (b : Bool) → find test (facts_in past) ≡ option_map (λ (e : Judged). e.fact) (find (λ (e : Judged). test e.fact) past)
        → cond b (Some d.fact) (find test (facts_in past)) ≡ option_map (λ (e : Judged). e.fact) (cond b (Some d) (find (λ (e : Judged). test e.fact) past))
    go true rest = refl
    go false rest = rest

-- whether the latest picture is that of a segment
abbrev pub ours : Placed → Fact → Option Fact
ours q f = if not (item_picture q.item) && is_own_picture q f.placed then Some f else None

pub own-found : (past : List Judged) (q : Placed) → own_picture (facts_in past) q ≡ option_and_then (ours q) (option_map (λ (d : Judged). d.fact) (find (λ (d : Judged). is_picture d.fact) past))
unfolding own_picture
own-found past q = ap (option_and_then (ours q)) (find-fact (λ (f : Fact). item_picture f.placed.item) past)

if_both : {A : Type 0} (b : Bool) (x y : A) → (if b && true then x else y) ≡ (if b then x else y)
if_both true x y = refl
if_both false x y = refl

-- the sets of a segment by the picture to which it belongs
abbrev pub sets_with : List Fact → Placed → Option Fact → Sets
sets_with past q own = option_map (λ (f : Fact). f.sets) (option_and_then (λ (f : Fact). if same_pps_id q f.placed then Some f else None) own) otherwise named_sets past q

pub sets-with : (past : List Fact) (q : Placed) → item_slice q.item ≡ true → sets_of past q ≡ sets_with past q (own_picture past q)
unfolding sets_of served_by
sets-with past q slice = ap (λ (b : Bool). if not b then no_sets else sets_with past q (own_picture past q)) slice

pub own-is : (vps : WholeVps) (opened : OpenValue) (past : List Judged) (q : Placed) (stands : IsOpen vps opened past q.au) → item_picture q.item ≡ false
    → own_picture (facts_in past) q ≡ (if nat_eq opened.head.layer q.item.head.layer then Some stands.first.fact else None)
unfolding is_own_picture
own-is vps opened past q stands later =
    let f : Fact = stands.first.fact in
    let among : Bool → Bool → Bool → Option Fact = λ p l a. if not p && (l && a) then Some f else None in
    own-found past q
    ∙ ap (λ (o : Option Judged). option_and_then (ours q) (option_map (λ (d : Judged). d.fact) o)) stands.picture
    ∙ ap (λ (b : Bool). among b (nat_eq f.placed.item.head.layer q.item.head.layer) (nat_eq f.placed.au q.au)) later
    ∙ ap (λ (h : UnitHead). among false (nat_eq h.layer q.item.head.layer) (nat_eq f.placed.au q.au)) stands.head_is
    ∙ ap (λ (b : Bool). among false (nat_eq opened.head.layer q.item.head.layer) b) (eq-eqb f.placed.au q.au stands.au_is)
    ∙ if_both (nat_eq opened.head.layer q.item.head.layer) (Some f) None

-- where a picture is there
pub served-is : (vps : WholeVps) (opened : OpenValue) (past : List Judged) (q : Placed) (id : ℕ) (stands : IsOpen vps opened past q.au) → item_slice q.item ≡ true → item_picture q.item ≡ false → pps_id q ≡ Some id
    → sets_of (facts_in past) q ≡ (if serves opened q.item.head id then sets_by opened.served.active else named_sets (facts_in past) q)
served-is vps opened past q id stands slice later id_is =
    let f : Fact = stands.first.fact in
    let l : Bool = nat_eq opened.head.layer q.item.head.layer in
    let named : Sets = named_sets (facts_in past) q in
    sets-with (facts_in past) q slice
    ∙ ap (sets_with (facts_in past) q) (own-is vps opened past q stands later)
    ∙ go l (same_pps_id q f.placed) refl
    ∙ ap (λ (b : Bool). if l && b then f.sets else named) same_id
    ∙ ap (λ (s : Sets). if serves opened q.item.head id then s else named) stands.sets_are
  where
    same_id : same_pps_id q stands.first.fact.placed ≡ nat_eq id opened.first.opening.slice_pic_parameter_set_id
    same_id =
        ap (λ (o : Option ℕ). option_map (λ a. option_map (nat_eq a) (pps_id stands.first.fact.placed) otherwise false) o otherwise false) id_is
        ∙ ap (λ (o : Option SliceOpening). option_map (nat_eq id) (option_map (λ (v : SliceOpening). v.slice_pic_parameter_set_id) o) otherwise false) stands.opening_is

    go : (l s : Bool) → same_pps_id q stands.first.fact.placed ≡ s
        → sets_with (facts_in past) q (if l then Some stands.first.fact else None) ≡ (if l && same_pps_id q stands.first.fact.placed then stands.first.fact.sets else named_sets (facts_in past) q)
    go false s e = refl
    go true s e = again (same_pps_id q stands.first.fact.placed)
      where
        again : (b : Bool) → (option_map (λ (f : Fact). f.sets) (if b then Some stands.first.fact else None) otherwise named_sets (facts_in past) q) ≡ (if b then stands.first.fact.sets else named_sets (facts_in past) q)
        again true = refl
        again false = refl

pub served-by : (vps : WholeVps) (opened : OpenValue) (past : List Judged) (q : Placed) (head : UnitHead) (id : ℕ) → IsOpen vps opened past q.au → IsSegment vps head id q → item_picture q.item ≡ false → serves opened head id ≡ true
    → sets_of (facts_in past) q ≡ sets_by opened.served.active
served-by vps opened past q head id stands segment later e =
    served-is vps opened past q id stands segment.slice later segment.id_is
    ∙ ap (λ (b : Bool). if b then sets_by opened.served.active else named_sets (facts_in past) q) (ap (λ (h : UnitHead). serves opened h id) segment.head_is ∙ e)

pub named-by : (vps : WholeVps) (opened : OpenValue) (past : List Judged) (q : Placed) (head : UnitHead) (id : ℕ) → IsOpen vps opened past q.au → IsSegment vps head id q → item_picture q.item ≡ false → serves opened head id ≡ false
    → sets_of (facts_in past) q ≡ named_sets (facts_in past) q
named-by vps opened past q head id stands segment later e =
    served-is vps opened past q id stands segment.slice later segment.id_is
    ∙ ap (λ (b : Bool). if b then sets_by opened.served.active else named_sets (facts_in past) q) (ap (λ (h : UnitHead). serves opened h id) segment.head_is ∙ e)

-- where no picture is there, and where the segment is a first one, what it names serves
pub named-alone : (past : List Judged) (q : Placed) → item_slice q.item ≡ true → (option_map (in_au q.au) (find (λ (d : Judged). is_picture d.fact) past) otherwise false) ≡ false
    → sets_of (facts_in past) q ≡ named_sets (facts_in past) q
unfolding is_own_picture
named-alone past q slice none =
    sets-with (facts_in past) q slice ∙ ap (sets_with (facts_in past) q) (own-found past q ∙ go (find (λ (d : Judged). is_picture d.fact) past) none)
  where
    refused : (p l a : Bool) (f : Fact) → a ≡ false → (if not p && (l && a) then Some f else None) ≡ None
    refused true l a f e = refl
    refused false true a f e = ap (λ (b : Bool). if b then Some f else None) e
    refused false false a f e = refl

    go : (o : Option Judged) → (option_map (in_au q.au) o otherwise false) ≡ false → option_and_then (ours q) (option_map (λ (d : Judged). d.fact) o) ≡ None
    go None e = refl
    go (Some d) e = refused (item_picture q.item) (nat_eq d.fact.placed.item.head.layer q.item.head.layer) (nat_eq d.fact.placed.au q.au) d.fact e

pub named-first : (past : List Fact) (q : Placed) → item_slice q.item ≡ true → item_picture q.item ≡ true → sets_of past q ≡ named_sets past q
unfolding own_picture
named-first past q slice first =
    sets-with past q slice ∙ ap (sets_with past q) (go (find (λ (f : Fact). item_picture f.placed.item) past))
  where
    go : (o : Option Fact) → option_and_then (ours q) o ≡ None
    go None = refl
    go (Some f) = ap (λ (b : Bool). if not b && is_own_picture q f.placed then Some f else None) first
