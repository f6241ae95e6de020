-- The next unit by its head and the first fields of a slice segment.
use Rattle.std.proofs.Common.{◌≡◌, ℕ, Bool, true, false, ◌&&◌, List, None, Some, refl, ap, sym, ◌∙◌, if◌then◌else◌}
use Rattle.std.specs.Prelude.{option_map}
use Rattle.mv_rules.specs.declared.rule.Rule.{Rule}
use Rattle.mv_judging.specs.declared.stop.Objection.{Objection}
use Rattle.mv_units.specs.declared.head.UnitHead.{UnitHead}
use Rattle.mv_units.specs.Head.{head}
use Rattle.mv_slice.specs.declared.opening.SliceOpening.{SliceOpening}
use Rattle.mv_pictures.specs.AccessUnits.{placed}
use Rattle.mv_pictures.specs.Facts.{Fact, fact, pps_id}
use Rattle.mv_pictures.specs.Items.{Item, is_first_segment, is_known, is_picture, is_slice, item, opening_of}
use Rattle.mv_pictures.specs.Kinds.{is_slice_kind}
use Rattle.mv_pictures.specs.Rules.{item_cases}
use Rattle.mv_commuting.specs.OneMore.{fact_behind}
use Rattle.mv_tried.specs.Segments.{rule_of_segment, segment_rule}
use Rattle.mv_tried.specs.Tried.{first_of}
use Rattle.mv_au.specs.Tracker.{IsTold}
use Rattle.mv_walk_laws.specs.Streams.{item_behind, objected, placed_behind}
use Rattle.mv_walk_laws.proofs.Verdicts.{later-segment}
use Rattle.std.proofs.lemmas.Bool.{and_parts}

pub bytes-of : (us : List (List ℕ)) (u : List ℕ) → (item_behind us u).bytes ≡ u
unfolding item
bytes-of us u = refl

pub head-of : (us : List (List ℕ)) (u : List ℕ) → (item_behind us u).head ≡ head u
unfolding item
head-of us u = refl

pub opening-of : (us : List (List ℕ)) (u : List ℕ) → (item_behind us u).opening ≡ opening_of (head u) u
unfolding item
opening-of us u = refl

-- whether it is the first segment of a picture, and the id of its picture parameter set
pub picture-peeked : (us : List (List ℕ)) (u : List ℕ) (b : Bool) → is_slice (item_behind us u) ≡ true → is_first_segment (opening_of (head u) u) ≡ b → is_picture (item_behind us u) ≡ b
picture-peeked us u b slice first =
    ap (λ s. s && is_first_segment (item_behind us u).opening) slice
    ∙ ap is_first_segment (opening-of us u)
    ∙ first

pub id-peeked : (us : List (List ℕ)) (u : List ℕ) → pps_id (placed_behind us u) ≡ option_map (λ (o : SliceOpening). o.slice_pic_parameter_set_id) (opening_of (head u) u)
unfolding placed item
id-peeked us u = refl

-- where the first fields don't read
no-opening : (p : Fact) → p.placed.item.opening ≡ None → segment_rule p ≡ Some Rule.SliceSyntax
unfolding segment_rule
no-opening p none = ap (λ o. rule_of_segment o p.sets p.header) none

pub unopened : (o : ℕ) (us : List (List ℕ)) (u : List ℕ) → is_slice (item_behind us u) ≡ true → first_of (item_cases (item_behind us u)) ≡ None → opening_of (head u) u ≡ None →
    objected o us u ≡ Some (Objection.Breaks Rule.SliceSyntax)
unopened o us u slice item_none none =
    later-segment o us u Rule.SliceSyntax slice
    (picture-peeked us u false slice (ap is_first_segment none))
    item_none
    (no-opening (fact_behind us u) (its ∙ opening-of us u ∙ none))
  where
    its : (fact_behind us u).placed.item.opening ≡ (item_behind us u).opening
    its = unfold fact placed in refl

-- as a tracker is told of it
pub told-other : (i : Item) (h : UnitHead) → is_known i ≡ true → h ≡ i.head → is_slice i ≡ false → IsTold i h None
told-other i h known same none = record { known = known; head_is = same; first_is = sym (ap (λ b. if b then Some (is_picture i) else None) none) }

pub told-segment : (i : Item) (h : UnitHead) (first : Bool) → is_slice i ≡ true → h ≡ i.head → is_picture i ≡ first → IsTold i h (Some first)
told-segment i h first slice same picture = record {
  known = (and_parts (is_known i) (is_slice_kind i.head.kind) slice).0;
  head_is = same;
  first_is = sym (ap (λ b. if b then Some (is_picture i) else None) slice ∙ ap Some picture);
}
