use Rattle.std.proofs.Common.{◌<◌, ℕ, List, refl, sym, subst, ◌∙◌}
use Rattle.mv_walk_sets.specs.InForce.{CarriedPpsValue}
use Rattle.mv_sets.specs.Store.{CarriesPps, Stands}
use Rattle.mv_sets.specs.StoreValue.{StoreValue}
use Rattle.mv_pictures.specs.History.{facts_of}
use Rattle.mv_commuting.specs.OneMore.{fact_behind}
use Rattle.mv_walk.proofs.SetTakes.{on-ok}
use Rattle.mv_walk.proofs.PutSets.{carries-pps, pps-stood}
use Rattle.mv_walk.proofs.course.Course.put_pps.Goals as goal

pub same-value : goal.same-value
same-value g c = refl

pub put_pps-requires-clause-layer : goal.put_pps-requires-clause-layer
put_pps-requires-clause-layer g c = c.requires.can.in_layers

pub put_pps-requires-clause-id : goal.put_pps-requires-clause-id
put_pps-requires-clause-id g c = subst (λ (s : CarriedPpsValue). s.value.0.opening.pps_pic_parameter_set_id < 64) (sym c.carried.view_is) c.requires.can.id_is

pub put_pps-requires-clause-count : goal.put_pps-requires-clause-count
put_pps-requires-clause-count g c = c.requires.can.few

pub returns-then-is_err-clause-memory : goal.returns-then-is_err-clause-memory
returns-then-is_err-clause-memory g c = refl

pub returns-then-is_err-clause-asked : goal.returns-then-is_err-clause-asked
returns-then-is_err-clause-asked g c = refl

pub returns-clause-puts : goal.returns-clause-puts
returns-clause-puts g c = λ us u old joined stood new.
    pps-stood old c.args.self.now _ us u c.args.layer c.args.carried joined stood new refl refl refl refl
    (on-ok _
    (c.put_pps.ensures.added (facts_of us) (fact_behind us u) (subst (λ (s : StoreValue). Stands s (facts_of us)) (sym joined.sets_are) stood.sets_are)
    (subst (λ (p : List ℕ). CarriesPps (fact_behind us u) c.args.layer p c.carried.inside.value.0) (sym c.deref.ensures.value)
    (subst (λ (s : CarriedPpsValue). CarriesPps (fact_behind us u) c.args.layer s.payload s.value.0) (sym c.carried.view_is) (carries-pps _ us u c.args.layer c.args.carried new))))
    (sym c.is_err.ensures.value ∙ c.if-is_err.false))

pub returns-clause-none : goal.returns-clause-none
returns-clause-none g c = refl

pub returns-clause-asked : goal.returns-clause-asked
returns-clause-asked g c = refl
