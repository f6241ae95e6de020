-- The open picture with a segment more.
use Rattle.std.proofs.Common.{◌≡◌, ℕ, ◌<◌, List, ◌∷◌, Option, None, Some, refl, sym, subst}
use Rattle.std.specs.Prelude.{is_some, Result, Ok, OnOk, ⊤}
use Rattle.std.specs.Option.{IfSome}
use Rattle.mv_units.specs.declared.head.UnitHead.{UnitHead}
use Rattle.mv_slice.specs.declared.slice.SliceHead.{SliceHead}
use Rattle.mv_pictures.specs.AccessUnits.{Placed}
use Rattle.mv_pictures.specs.Facts.{fact}
use Rattle.mv_pictures.specs.History.{judged}
use Rattle.mv_pictures.specs.Judged.{Judged}
use Rattle.mv_tried.specs.Finer.{facts_in}
use Rattle.mv_walk_segment.specs.Open as open_picture
use Rattle.mv_walk_segment.specs.Open.{IsNext, IsOpen, later_rule}
use Rattle.mv_walk_segment.specs.OpenValue.{OpenValue}
use Rattle.mv_walk_segment.specs.Taken.{AreShort}
use Rattle.mv_walk_segment.specs.declared.fault.SegmentFault.{SegmentFault}
use Rattle.mv_walk_sets.specs.InForce.{VpsInForceValue}
use Rattle.mv_walk.specs.Decoders.{DecoderStands, in_making}
use Rattle.mv_walk.specs.Laters.{IsNextOf}
use Rattle.mv_walk.specs.declared.decoder.Decoder.{Decoder}
use Rattle.mv_walk.specs.declared.making.Making.{Making}
use Rattle.mv_walk.proofs.Adding.{later-stands}

module _ {R W P : Type 0} (old : Decoder R W P) (vps : VpsInForceValue) (head : UnitHead) (header : SliceHead) (it added : OpenValue) (result : Result ⊤ SegmentFault) (done : ⊤) (is : result ≡ Ok done)
    (was : old.picture ≡ Some it)
    (answer : (past : List Judged) (q : Placed) → IsNext vps.value it head header past q → open_picture.Takes result (later_rule past (fact (facts_in past) q)))
    (stands : (past : List Judged) (q : Placed) → IsNext vps.value it head header past q → OnOk result (IsOpen vps.value added (judged past (fact (facts_in past) q) ∷ past) q.au))
    (keeps : open_picture.Keeps it added) (short : IfSome it.decoded (λ d. AreShort d.lists) → IfSome added.decoded (λ d. AreShort d.lists)) where
  -- it is accepted, and stands for one segment more
  pub added-takes : (m : Option (Making R W P)) → ((n : ℕ) → in_making m n ≡ in_making old.making n) → (IfSome old.making (λ x. x.shown.layer < 64) → IfSome m (λ x. x.shown.layer < 64)) → is_some m ≡ is_some old.making →
      (past : List Judged) (q : Placed) → DecoderStands old (Some vps) past q.au → IsNextOf vps.value old.picture head header past q →
      (later_rule past (fact (facts_in past) q) ≡ None) × DecoderStands (record old { picture = Some added; making = m }) (Some vps) (judged past (fact (facts_in past) q) ∷ past) q.au
  unfolding fact
  added-takes m makes low made past q h next =
      let n : IsNext vps.value it head header past q = subst (λ o. IsNextOf vps.value o head header past q) was next in (
        subst (λ r. open_picture.Takes r (later_rule past (fact (facts_in past) q))) is (answer past q n),
        later-stands old (record old { picture = Some added; making = m }) vps past (fact (facts_in past) q) q.au it added h n.slice n.later was refl keeps short
            (subst (λ (r : Result ⊤ SegmentFault). OnOk r (IsOpen vps.value added (judged past (fact (facts_in past) q) ∷ past) q.au)) is (stands past q n))
            refl refl refl refl refl refl makes (low h.keeps.pictures.in_layer) made,
      )

  -- a picture in the making stays it, with its layer, its count and its access unit
  pub made-takes : (before after : Making R W P) → old.making ≡ Some before → after ≡ record before { work = after.work } → (past : List Judged) (q : Placed) → DecoderStands old (Some vps) past q.au → IsNextOf vps.value old.picture head header past q →
      (later_rule past (fact (facts_in past) q) ≡ None) × DecoderStands (record old { picture = Some added; making = Some after }) (Some vps) (judged past (fact (facts_in past) q) ∷ past) q.au
  made-takes before after making rest =
      added-takes (Some after)
      (λ n. subst (λ (o : Option (Making R W P)). in_making (Some after) n ≡ in_making o n) (sym making) (subst (λ (x : Making R W P). in_making (Some x) n ≡ in_making (Some before) n) (sym rest) refl))
      (λ h. subst (λ (x : Making R W P). x.shown.layer < 64) (sym rest) (let b : IfSome (Some before) (λ (x : Making R W P). x.shown.layer < 64) = subst (λ o. IfSome o (λ (x : Making R W P). x.shown.layer < 64)) making h in b))
      (subst (λ o. is_some (Some after) ≡ is_some o) (sym making) refl)
