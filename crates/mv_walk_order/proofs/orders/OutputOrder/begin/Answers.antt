use Rattle.std.proofs.Common.{◌≡◌, ◌∙◌, ◌≤◌, ℕ, List, sym, ap, subst, length, map, get_or}
use Rattle.mv_dpb.specs.OrderValue.{OrderValue}
use Rattle.mv_layers.specs.Derived.{OlsValue}
use Rattle.mv_walk_order.specs.OrderSteps.{FitsSet, begun_upto, begun_with, no_ols, reorder_in, set_value}
use Rattle.mv_walk_order.specs.OrderValues.{OrdersValue, SetValue}
use Rattle.mv_walk_order.proofs.OrderLaws.{begun-stands}
use Rattle.mv_walk_order.proofs.Validity.{sets_few, sets_fit}
use Rattle.mv_walk_order.proofs.orders.OutputOrder.begin.Goals as goal

pub sets_of-sets-requires-clause-few : goal.sets_of-sets-requires-clause-few
sets_of-sets-requires-clause-few c =
    let given = c.sets_in.ensures in
    subst (λ (xs : List OlsValue). length xs ≤ 64) (sym given) (sets_few c.args.vps.now c.requires.valid)

pub sets_of-sets-requires-clause-each : goal.sets_of-sets-requires-clause-each
sets_of-sets-requires-clause-each c = λ k.
    let given = c.sets_in.ensures in
    subst (λ (n : ℕ). FitsSet n (get_or c.sets_in.result.now k no_ols)) (sym c.sps_reorder.ensures)
    (subst (λ (xs : List OlsValue). FitsSet (reorder_in c.args.sps.now.0) (get_or xs k no_ols)) (sym given) (sets_fit c.args.vps.now c.requires.valid (reorder_in c.args.sps.now.0) c.requires.few k))

pub returns : goal.returns
returns c =
    let sets : List SetValue = map (set_value (reorder_in c.args.sps.now.0)) c.args.vps.now.derived.sets in
    let items : c.sets_of-sets.result.items ≡ sets =
    c.sets_of-sets.ensures
    ∙ ap (λ n. map (set_value n) c.sets_in.result.now) c.sps_reorder.ensures
    ∙ ap (map (set_value (reorder_in c.args.sps.now.0))) (c.sets_in.ensures) in
    let check : c.begin_all.new.check ≡ begun_upto sets (length sets) c.args.self.now.check =
    c.begin_all.ensures
    ∙ ap (λ xs. begun_upto xs (length xs) c.self.inside.check) (c.as_slice.ensures.value ∙ items)
    ∙ ap (λ (s : OrdersValue). begun_upto sets (length sets) s.check) c.self.view_is in
    let new : OrdersValue = record { check = c.begin_all.new.check; sets = c.sets_of-sets.result.items } in
    let e : new ≡ begun_with sets c.args.self.now =
    ap (λ (xs : List SetValue). let s : OrdersValue = record { check = c.begin_all.new.check; sets = xs } in s) items
    ∙ ap (λ (ch : List OrderValue). let s : OrdersValue = record { check = ch; sets = sets } in s) check in
    record {
      stands = λ past p stands begun. begun-stands c.args.self.now new c.args.vps.now c.args.sps.now.0 past p (sets_few c.args.vps.now c.requires.valid) e stands begun;
    }
