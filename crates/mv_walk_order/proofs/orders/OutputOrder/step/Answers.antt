use Rattle.std.proofs.Common.{◌≡◌, ◌∙◌, ℤ, List, sym, ap, length, to_z, of_z, w32}
use Rattle.std.specs.Prelude.{is_ok}
use Rattle.std.proofs.lemmas.Int.{to_z-of_z}
use Rattle.mv_dpb.specs.OrderValue.{OrderValue}
use Rattle.mv_pictures.specs.History.{judged}
use Rattle.mv_walk_order.specs.OrderSteps.{counted_with, late_set, refusal}
use Rattle.mv_walk_order.specs.OrderValues.{OrdersValue, SetValue}
use Rattle.mv_walk_order.proofs.OrderLaws.{answer-is, decoded-slice, holds-more, stands-of}
use Rattle.mv_walk_order.proofs.orders.OutputOrder.step.Goals as goal

pub returns-clause-answer : goal.returns-clause-answer
returns-clause-answer c =
    let z : ℤ = to_z w32 (of_z w32 c.args.count) in
    let e : z ≡ c.args.count = to_z-of_z w32 c.args.count c.ranges.count in
    let said : c.step_all.result ≡ refusal (late_set c.args.self.now.sets c.args.self.now.check c.args.layer c.args.count (length c.args.self.now.sets)) =
    c.step_all.ensures.late
    ∙ ap (λ xs. refusal (late_set xs c.self.inside.check c.args.layer z (length xs))) c.as_slice.ensures.value
    ∙ ap (λ (s : OrdersValue). refusal (late_set s.sets s.check c.args.layer z (length s.sets))) c.self.view_is
    ∙ ap (λ z. refusal (late_set c.args.self.now.sets c.args.self.now.check c.args.layer z (length c.args.self.now.sets))) e in
    λ past p holds steady shown. said ∙ answer-is c.args.self.now past (judged past p) c.args.layer c.args.au c.args.count holds steady shown

pub returns-clause-stands : goal.returns-clause-stands
returns-clause-stands c =
    let z : ℤ = to_z w32 (of_z w32 c.args.count) in
    let e : z ≡ c.args.count = to_z-of_z w32 c.args.count c.ranges.count in
    let said : c.step_all.result ≡ refusal (late_set c.args.self.now.sets c.args.self.now.check c.args.layer c.args.count (length c.args.self.now.sets)) =
    c.step_all.ensures.late
    ∙ ap (λ xs. refusal (late_set xs c.self.inside.check c.args.layer z (length xs))) c.as_slice.ensures.value
    ∙ ap (λ (s : OrdersValue). refusal (late_set s.sets s.check c.args.layer z (length s.sets))) c.self.view_is
    ∙ ap (λ z. refusal (late_set c.args.self.now.sets c.args.self.now.check c.args.layer z (length c.args.self.now.sets))) e in
    let new : OrdersValue = record { check = c.step_all.new.check; sets = c.self.inside.sets.items } in
    let new_is : new ≡ counted_with c.args.layer c.args.au c.args.count c.args.self.now =
    ap (λ (ch : List OrderValue). let s : OrdersValue = record { check = ch; sets = c.self.inside.sets.items } in s)
    (c.step_all.ensures.counted
    ∙ ap (λ (xs : List SetValue). let s : OrdersValue = record { check = c.self.inside.check; sets = xs } in (counted_with c.args.layer c.args.au z s).check) c.as_slice.ensures.value)
    ∙ ap (counted_with c.args.layer c.args.au z) c.self.view_is
    ∙ ap (λ z. counted_with c.args.layer c.args.au z c.args.self.now) e in
    λ past p holds steady shown ok.
    stands-of new past p (decoded-slice past p shown.decoded)
    (holds-more c.args.self.now past (judged past p) c.args.layer c.args.au c.args.count holds steady shown new new_is (ap is_ok (sym said) ∙ ok))
