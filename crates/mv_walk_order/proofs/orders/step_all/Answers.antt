use Rattle.std.proofs.Common.{◌≡◌, ◌∙◌, ℤ, cond, length, Some, ap, sym, arith, to_z, of_z, w32}
use Rattle.std.specs.Prelude.{Err, is_ok}
use Rattle.std.proofs.lemmas.Int.{to_z-of_z}
use Rattle.mv_syntax.specs.Words.{◌otherwise◌}
use Rattle.mv_walk_order.specs.OrderSteps.{counted_in, counted_upto, is_late_in, late_set, refusal}
use Rattle.mv_walk_order.proofs.StepLaws.{err-is, none, refused, taken}
use Rattle.mv_walk_order.proofs.orders.step_all.Goals as goal

pub returns-in-Err-clause-late : goal.returns-in-Err-clause-late
returns-in-Err-clause-late c =
    let z : ℤ = to_z w32 (of_z w32 c.args.count) in
    let e : to_z w32 (of_z w32 c.args.count) ≡ c.args.count = to_z-of_z w32 c.args.count c.ranges.count in
    let said = sym c.step_set.ensures.late ∙ c.in-Err.is in
    let found : late_set c.args.sets.now c.args.check.now c.args.layer z (length c.args.sets.now) ≡ Some c.loop-set.set =
    refused c.args.sets.now c.args.check.now c.args.layer c.args.au z c.loop-set.check c.loop-set.check c.loop-set.set c.loop-set.invariant c.loop-set-test.true c.in-Err.rule said in
    ap Err (sym (err-is (is_late_in c.args.sets.now c.loop-set.check c.args.layer z c.loop-set.set) c.loop-set.set c.in-Err.rule said).1)
    ∙ sym (ap refusal found)
    ∙ ap (λ z. refusal (late_set c.args.sets.now c.args.check.now c.args.layer z (length c.args.sets.now))) e

pub returns-in-Err-clause-counted : goal.returns-in-Err-clause-counted
returns-in-Err-clause-counted c =
    let z : ℤ = to_z w32 (of_z w32 c.args.count) in
    let e : to_z w32 (of_z w32 c.args.count) ≡ c.args.count = to_z-of_z w32 c.args.count c.ranges.count in
    let said = sym c.step_set.ensures.late ∙ c.in-Err.is in
    let found : late_set c.args.sets.now c.args.check.now c.args.layer z (length c.args.sets.now) ≡ Some c.loop-set.set =
    refused c.args.sets.now c.args.check.now c.args.layer c.args.au z c.loop-set.check c.loop-set.check c.loop-set.set c.loop-set.invariant c.loop-set-test.true c.in-Err.rule said in
    c.step_set.ensures.counted
    ∙ ap (λ r. cond (is_ok r) (counted_in c.args.sets.now c.args.layer c.args.au z c.loop-set.set c.loop-set.check) c.loop-set.check) c.in-Err.is
    ∙ c.loop-set.invariant.0
    ∙ sym (ap (λ o. counted_upto c.args.sets.now c.args.layer c.args.au z (o otherwise length c.args.sets.now) c.args.check.now) found)
    ∙ ap (λ z. counted_upto c.args.sets.now c.args.layer c.args.au z (late_set c.args.sets.now c.args.check.now c.args.layer z (length c.args.sets.now) otherwise length c.args.sets.now) c.args.check.now) e

pub loop-set-preserved : goal.loop-set-preserved
loop-set-preserved c =
    let z : ℤ = to_z w32 (of_z w32 c.args.count) in
    taken c.args.sets.now c.args.check.now c.args.layer c.args.au z c.loop-set.check c.step_set.new.check c.loop-set.set c.loop-set.invariant c.in-Ok.field-0
    (sym c.step_set.ensures.late ∙ c.in-Ok.is)
    (c.step_set.ensures.counted ∙ ap (λ r. cond (is_ok r) (counted_in c.args.sets.now c.args.layer c.args.au z c.loop-set.set c.loop-set.check) c.loop-set.check) c.in-Ok.is)

pub returns-clause-late : goal.returns-clause-late
returns-clause-late c =
    let z : ℤ = to_z w32 (of_z w32 c.args.count) in
    let e : to_z w32 (of_z w32 c.args.count) ≡ c.args.count = to_z-of_z w32 c.args.count c.ranges.count in
    let all : c.loop-set.set ≡ length c.args.sets.now = omega arith in
    sym (ap refusal (none c.args.sets.now c.args.check.now c.args.layer c.args.au z c.loop-set.check c.loop-set.check c.loop-set.set c.loop-set.invariant all))
    ∙ ap (λ z. refusal (late_set c.args.sets.now c.args.check.now c.args.layer z (length c.args.sets.now))) e

pub returns-clause-counted : goal.returns-clause-counted
returns-clause-counted c =
    let z : ℤ = to_z w32 (of_z w32 c.args.count) in
    let e : to_z w32 (of_z w32 c.args.count) ≡ c.args.count = to_z-of_z w32 c.args.count c.ranges.count in
    let all : c.loop-set.set ≡ length c.args.sets.now = omega arith in
    c.loop-set.invariant.0
    ∙ ap (λ n. counted_upto c.args.sets.now c.args.layer c.args.au z n c.args.check.now) all
    ∙ sym (ap (λ o. counted_upto c.args.sets.now c.args.layer c.args.au z (o otherwise length c.args.sets.now) c.args.check.now)
    (none c.args.sets.now c.args.check.now c.args.layer c.args.au z c.loop-set.check c.loop-set.check c.loop-set.set c.loop-set.invariant all))
    ∙ ap (λ z. counted_upto c.args.sets.now c.args.layer c.args.au z (late_set c.args.sets.now c.args.check.now c.args.layer z (length c.args.sets.now) otherwise length c.args.sets.now) c.args.check.now) e
