-- What a call that takes a later segment answers, by what the calls below it answer.
use Rattle.std.proofs.Common.{◌≡◌, ℕ, true, List, ◌∷◌, map, Option, Some, Result, Ok, Err, sym, ap, ap₂, ◌∙◌, subst}
use Rattle.std.specs.Prelude.{⊤, OnOk}
use Rattle.std.specs.Option.{IfSome}
use Rattle.mv_syntax.specs.Words.{or_zero}
use Rattle.mv_rules.specs.declared.rule.Rule.{Rule}
use Rattle.mv_units.specs.declared.head.UnitHead.{UnitHead}
use Rattle.mv_layers.specs.LayerInfos.{directs_of, is_known}
use Rattle.mv_vps.specs.Vps.{WholeVps}
use Rattle.mv_slice.specs.declared.slice.SliceHead.{SliceHead}
use Rattle.mv_slice.specs.Context.{Fits, SliceContextValue}
use Rattle.mv_slice.specs.Layers.{eligible}
use Rattle.mv_pictures.specs.Contexts.{direct_layer}
use Rattle.mv_pictures.specs.AccessUnits.{Placed}
use Rattle.mv_pictures.specs.Facts.{Fact, fact}
use Rattle.mv_pictures.specs.History.{judged}
use Rattle.mv_pictures.specs.Judged.{Judged}
use Rattle.mv_au.specs.Agreement.{IsLater, IsSegment as IsRead, answer}
use Rattle.mv_tried.specs.Finer.{facts_in}
use Rattle.mv_walk_segment.specs.declared.fault.SegmentFault.{SegmentFault}
use Rattle.mv_walk_segment.specs.OpenValue.{DecodedValue, OpenValue, ServedValue}
use Rattle.mv_walk_segment.specs.Open.{IsNext, IsOpen, Takes, later_rule}
use Rattle.mv_walk_segment.specs.Serving.{IsServing, context_by}
use Rattle.mv_walk_segment.specs.Taken.{AreListed, AreShort, broken_by, taken, with_lists}
use Rattle.mv_walk_segment.proofs.AddLaws.{first-read, is-later, next-read, ok-agrees, ok-rule, refused-rule, takes-taken, with_context}
use Rattle.mv_walk_segment.proofs.ListLaws.{after-is, broken-is, listed}
use Rattle.mv_walk_segment.proofs.TakenLaws.{with-short}

-- what serves a segment serves one of its layer with the same TemporalId
pub serving-same : (vps : WholeVps) (a b : UnitHead) (served : ServedValue) → a.layer ≡ b.layer → b.tid ≡ a.tid → IsServing vps a served → IsServing vps b served
serving-same vps a b served layers tids h = record {
  known = ap (λ (n : ℕ). is_known vps.derived.layers n) (sym layers) ∙ h.known;
  sets = h.sets;
  layers = h.layers ∙ ap₂ (λ (t n : ℕ). eligible t (map (direct_layer vps n) (directs_of vps.derived.layers n))) (sym tids) layers;
}

pub known-same : (vps : WholeVps) (a b : UnitHead) (served : ServedValue) → a.layer ≡ b.layer → IsServing vps a served → is_known vps.derived.layers b.layer ≡ true
known-same vps a b served layers h = ap (λ (n : ℕ). is_known vps.derived.layers n) (sym layers) ∙ h.known

-- what the call below says of each later segment with this context
abbrev pub Says : SliceHead → UnitHead → ℕ → UnitHead → SliceHead → SliceContextValue → Result ⊤ Rule → Type 0
Says first first_head last head header ctx r =
    (past : List Fact) (f p : Fact) → IsRead first_head first f → IsRead head header p → IsLater last ctx past f p → r ≡ answer past p

module _ (vps : WholeVps) (opened : OpenValue) (head : UnitHead) (header : SliceHead) (past : List Judged) (q : Placed) (next : IsNext vps opened head header past q) (x : SliceContextValue)
    (same : x ≡ context_by vps opened.served.active opened.head) where
  abbrev p : Fact
  p = fact (facts_in past) q

  abbrev ctx : SliceContextValue
  ctx = context_by vps opened.served.active opened.head

  said : (r : Result ⊤ Rule) → Says opened.first opened.head opened.address head header x r → r ≡ answer (facts_in past) (with_context p (Some ctx))
  said r all =
      (subst (λ (y : SliceContextValue). Says opened.first opened.head opened.address head header y r) same all) (facts_in past) next.stands.first.fact (with_context p (Some ctx))
      (first-read vps opened head header past q next) (next-read vps opened head header past q next) (is-later vps opened head header past q next)

  pub refused-takes : (rule : Rule) → Says opened.first opened.head opened.address head header x (Err rule) → Takes (Err (SegmentFault.Refused rule)) (later_rule past p)
  refused-takes rule all = refused-rule vps opened head header past q next rule (sym (said (Err rule) all))

  module _ (all : Says opened.first opened.head opened.address head header x (Ok tt)) where
    ok : answer (facts_in past) (with_context p (Some ctx)) ≡ Ok tt
    ok = sym (said (Ok tt) all)

    pub conditions : Fits x → IfSome header.full (λ full. AreListed x full)
    conditions fits =
        subst (λ (y : SliceContextValue). IfSome header.full (λ full. AreListed y full)) (sym same)
        (listed vps opened head header past q next (ok-agrees vps opened head header past q next ok) (subst Fits same fits))

    pub added-takes : (r : Result ⊤ SegmentFault) → r ≡ taken (broken_by opened.decoded x header.full) → Takes r (later_rule past p)
    added-takes r e =
        subst (λ (s : Result ⊤ SegmentFault). Takes s (later_rule past p)) (sym (e ∙ ap (λ (y : SliceContextValue). taken (broken_by opened.decoded y header.full)) same))
        (takes-taken (broken_by opened.decoded ctx header.full) (later_rule past p)
        (ok-rule vps opened head header past q next ok ∙ broken-is vps opened head header past q next (ok-agrees vps opened head header past q next ok)))

    pub added-short : (d : Option DecodedValue) → d ≡ with_lists opened.decoded x header.full → Fits x → IfSome opened.decoded (λ y. AreShort y.lists) → IfSome d (λ y. AreShort y.lists)
    added-short d e fits h =
        subst (λ (o : Option DecodedValue). IfSome o (λ y. AreShort y.lists)) (sym e) (with-short opened.decoded x header.full (conditions fits) h)

    new_with : ℕ → Option DecodedValue → OpenValue
    new_with a d = record { head = opened.head; served = opened.served; first = opened.first; address = a; decoded = d }

    pub added-stands : (r : Result ⊤ SegmentFault) (a : ℕ) (d : Option DecodedValue) → a ≡ or_zero header.address.slice_segment_address → OnOk r (d ≡ with_lists opened.decoded x header.full)
        → OnOk r (IsOpen vps (record { head = opened.head; served = opened.served; first = opened.first; address = a; decoded = d }) (judged past p ∷ past) q.au)
    unfolding new_with
    added-stands (Err fault) a d address lists = tt
    added-stands (Ok done) a d address lists =
        let made : new_with a d ≡ new_with (or_zero header.address.slice_segment_address) (with_lists opened.decoded ctx header.full) =
        ap₂ new_with address (lists ∙ ap (λ (y : SliceContextValue). with_lists opened.decoded y header.full) same) in
        subst (λ (o : OpenValue). IsOpen vps o (judged past p ∷ past) q.au) (sym made)
        (after-is vps opened head header past q next (ok-agrees vps opened head header past q next ok))
