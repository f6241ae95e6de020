use Rattle.std.proofs.Common.{refl, ap, sym, subst, ◌∙◌}
use Rattle.std.specs.Prelude.{Err, Ok}
use Rattle.mv_sets.specs.StoreValue.{StoreValue}
use Rattle.mv_walk.specs.Taking.{CanKeepPps, Takes}
use Rattle.mv_walk.specs.declared.course.Course.{Course}
use Rattle.mv_walk.specs.declared.ending.Stop.{Stop as StopValue}
use Rattle.mv_walk.proofs.Causes as causes
use Rattle.mv_walk.proofs.Joins.{takes-err}
use Rattle.mv_walk.proofs.Keeping.{can-keep_pps}
use Rattle.mv_walk.proofs.SetTakes.{pps-answers, pps-new, pps-refused, put-takes, put-unseen, told-pps}
use Rattle.mv_walk.proofs.course.Course.take_pps.Goals as goal

pub join-requires : goal.join-requires
join-requires g c = record { has = record { units = c.requires.may.units; stood = c.requires.may.stood; few = c.requires.may.few } }

pub put_pps-requires : goal.put_pps-requires
put_pps-requires g c =
    let m = c.requires.may in
    record {
      can = subst (λ (s : StoreValue). CanKeepPps s c.args.head.layer c.in-Ok.carried) (sym (ap (λ (x : Course g.row.R.Denot g.row.R-Work.Denot g.row.R-Pic.Denot). x.sets) c.join.ensures.rest))
          (can-keep_pps c.args.self.now m.units c.args.unit.now c.args.head c.in-Ok.carried m.stood m.few m.its_role (pps-new c.args.self.now.decoder.asked m.units c.args.unit.now c.args.head c.in-Ok.carried m.its_role (pps-answers m.units c.args.unit.now c.args.head (Ok c.in-Ok.carried) m.its_role c.in-Ok.ensures)).carried_is);
    }

pub returns-in-Ok-join-clause-takes : goal.returns-in-Ok-join-clause-takes
returns-in-Ok-join-clause-takes g c = λ us stood few role.
    let new = pps-new c.args.self.now.decoder.asked us c.args.unit.now c.args.head c.in-Ok.carried role (pps-answers us c.args.unit.now c.args.head (Ok c.in-Ok.carried) role c.in-Ok.ensures) in
    put-takes c.args.self.now.decoder.asked c.put_pps.new.self us c.args.unit.now 34 c.put_pps.result refl new.kind_is new.accepted
    (c.put_pps.ensures.puts us c.args.unit.now c.args.self.now (c.in-Ok-join.ensures.joins us c.args.unit.now stood few (told-pps us c.args.unit.now c.args.head role)).0 stood new)
    c.put_pps.ensures.none c.put_pps.ensures.memory

pub returns-in-Ok-join-clause-asked : goal.returns-in-Ok-join-clause-asked
returns-in-Ok-join-clause-asked g c = c.put_pps.ensures.asked ∙ c.join.ensures.asked

pub returns-in-Ok-join-clause-cause : goal.returns-in-Ok-join-clause-cause
returns-in-Ok-join-clause-cause g c = causes.told _ _ _ _ c.join.ensures.cause (λ wrong. absurd (put-unseen c.put_pps.result c.put_pps.ensures.memory wrong))

pub returns-in-Err-join-clause-takes : goal.returns-in-Err-join-clause-takes
returns-in-Err-join-clause-takes g c = λ us stood few role.
    takes-err c.args.self.now.decoder.asked us c.args.unit.now c.args.self.now c.join.new.self c.join.new.self c.in-Err-join.stop (c.in-Err-join.ensures.joins us c.args.unit.now stood few (told-pps us c.args.unit.now c.args.head role))

pub returns-in-Err-join-clause-asked : goal.returns-in-Err-join-clause-asked
returns-in-Err-join-clause-asked g c = c.join.ensures.asked

pub returns-in-Err-join-clause-cause : goal.returns-in-Err-join-clause-cause
returns-in-Err-join-clause-cause g c = causes.told _ _ _ _ c.join.ensures.cause (λ wrong. c.in-Err-join.is ∙ causes.same-stop c.in-Err-join.stop wrong)

pub returns-in-Err-clause-takes : goal.returns-in-Err-clause-takes
returns-in-Err-clause-takes g c = λ us stood few role.
    subst (λ (s : StopValue). Takes c.args.self.now.decoder.asked us c.args.unit.now c.args.self.now (Err s)) (sym c.of_read.ensures) (pps-refused c.args.self.now.decoder.asked c.args.self.now us c.args.unit.now c.args.head c.in-Err.fault role (pps-answers us c.args.unit.now c.args.head (Err c.in-Err.fault) role c.in-Err.ensures))

pub returns-in-Err-clause-asked : goal.returns-in-Err-clause-asked
returns-in-Err-clause-asked g c = refl

pub returns-in-Err-clause-cause : goal.returns-in-Err-clause-cause
returns-in-Err-clause-cause g c = causes.unseen _ _ (λ wrong. causes.read-unseen c.in-Err.fault (ap Err (sym c.of_read.ensures) ∙ wrong))
