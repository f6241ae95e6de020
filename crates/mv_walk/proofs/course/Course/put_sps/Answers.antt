use Rattle.std.proofs.Common.{◌<◌, ℕ, List, refl, sym, subst, ◌∙◌}
use Rattle.mv_sets.specs.Formats.{SpsFormatFits}
use Rattle.mv_walk_sets.specs.InForce.{CarriedSpsValue}
use Rattle.mv_sets.specs.Store.{CarriesSps, Stands}
use Rattle.mv_sets.specs.StoreValue.{StoreValue}
use Rattle.mv_pictures.specs.History.{facts_of}
use Rattle.mv_commuting.specs.OneMore.{fact_behind}
use Rattle.mv_walk.proofs.SetTakes.{on-ok}
use Rattle.mv_walk.proofs.PutSets.{carries-sps, sps-stood}
use Rattle.mv_walk.proofs.course.Course.put_sps.Goals as goal

pub same-value : goal.same-value
same-value g c = refl

pub put_sps-requires-clause-layer : goal.put_sps-requires-clause-layer
put_sps-requires-clause-layer g c = c.requires.can.in_layers

pub put_sps-requires-clause-id : goal.put_sps-requires-clause-id
put_sps-requires-clause-id g c = subst (λ (s : CarriedSpsValue). s.value.0.opening.sps_seq_parameter_set_id < 16) (sym c.carried.view_is) c.requires.can.id_is

pub same-value-inside : goal.same-value-inside
same-value-inside g c = refl

pub put_sps-requires-clause-format : goal.put_sps-requires-clause-format
put_sps-requires-clause-format g c = subst (λ (s : CarriedSpsValue). SpsFormatFits s.value.0) (sym c.carried.view_is) c.requires.can.fits

pub put_sps-requires-clause-count : goal.put_sps-requires-clause-count
put_sps-requires-clause-count g c = c.requires.can.few

pub returns-then-is_err-clause-memory : goal.returns-then-is_err-clause-memory
returns-then-is_err-clause-memory g c = refl

pub returns-then-is_err-clause-asked : goal.returns-then-is_err-clause-asked
returns-then-is_err-clause-asked g c = refl

pub returns-clause-puts : goal.returns-clause-puts
returns-clause-puts g c = λ us u old joined stood new.
    sps-stood old c.args.self.now _ us u c.args.layer c.args.carried joined stood new refl refl refl refl
    (on-ok _
    (c.put_sps.ensures.added (facts_of us) (fact_behind us u) (subst (λ (s : StoreValue). Stands s (facts_of us)) (sym joined.sets_are) stood.sets_are)
    (subst (λ (p : List ℕ). CarriesSps (fact_behind us u) c.args.layer p c.carried.inside.value.0) (sym c.deref.ensures.value)
    (subst (λ (s : CarriedSpsValue). CarriesSps (fact_behind us u) c.args.layer s.payload s.value.0) (sym c.carried.view_is) (carries-sps _ us u c.args.layer c.args.carried new))))
    (sym c.is_err.ensures.value ∙ c.if-is_err.false))

pub returns-clause-none : goal.returns-clause-none
returns-clause-none g c = refl

pub returns-clause-asked : goal.returns-clause-asked
returns-clause-asked g c = refl
