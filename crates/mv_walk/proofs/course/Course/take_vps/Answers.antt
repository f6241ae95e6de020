use Rattle.std.proofs.Common.{refl, ap, sym, subst, ◌∙◌}
use Rattle.std.specs.Prelude.{Err, Ok}
use Rattle.mv_walk.specs.Taking.{Takes}
use Rattle.mv_walk.specs.declared.ending.Stop.{Stop as StopValue}
use Rattle.mv_walk.proofs.Causes as causes
use Rattle.mv_walk.proofs.Joins.{takes-err}
use Rattle.mv_walk.proofs.PutSets.{vps-refused, vps-takes}
use Rattle.mv_walk.proofs.Putting.{put-asked}
use Rattle.mv_walk.proofs.VpsTakes.{told-vps, vps-answers}
use Rattle.mv_walk.proofs.course.Course.take_vps.Goals as goal

pub returns-in-Err-clause-takes : goal.returns-in-Err-clause-takes
returns-in-Err-clause-takes g c = λ us stood few role.
    subst (λ (s : StopValue). Takes c.args.self.now.decoder.asked us c.args.unit.now c.args.self.now (Err s)) (sym c.of_vps.ensures)
    (vps-refused c.args.self.now.decoder.asked c.args.self.now us c.args.unit.now c.args.head c.in-Err.fault role (vps-answers c.args.self.now us c.args.unit.now c.args.head c.args.self.now.decoder.asked _ (Err c.in-Err.fault) stood role c.as_ref.ensures.value c.in-Err.ensures.takes))

pub returns-in-Err-clause-asked : goal.returns-in-Err-clause-asked
returns-in-Err-clause-asked g c = refl

pub returns-in-Err-clause-cause : goal.returns-in-Err-clause-cause
returns-in-Err-clause-cause g c = causes.unseen _ _ (λ wrong. causes.vps-unseen c.in-Err.fault (ap Err (sym c.of_vps.ensures) ∙ wrong))

pub join-requires : goal.join-requires
join-requires g c = record { has = record { units = c.requires.may.units; stood = c.requires.may.stood; few = c.requires.may.few } }

pub returns-in-Ok-join-clause-takes : goal.returns-in-Ok-join-clause-takes
returns-in-Ok-join-clause-takes g c = λ us stood few role.
    let t = vps-takes c.args.self.now c.join.new.self c.put_vps.new.self us c.args.unit.now c.args.head c.in-Ok.new c.in-Ok-join.step (c.in-Ok-join.ensures.joins us c.args.unit.now stood few (told-vps us c.args.unit.now c.args.head role)) stood role
    (vps-answers c.args.self.now us c.args.unit.now c.args.head c.args.self.now.decoder.asked _ (Ok c.in-Ok.new) stood role c.as_ref.ensures.value c.in-Ok.ensures.takes) c.put_vps.ensures.put in
    (t.0, t.1, c.put_vps.ensures.none ∙ t.2)

pub returns-in-Ok-join-clause-asked : goal.returns-in-Ok-join-clause-asked
returns-in-Ok-join-clause-asked g c = put-asked c.in-Ok.new c.in-Ok-join.step.au c.join.new.self c.put_vps.new.self c.put_vps.ensures.put ∙ c.join.ensures.asked

pub returns-in-Ok-join-clause-cause : goal.returns-in-Ok-join-clause-cause
returns-in-Ok-join-clause-cause g c = causes.told _ _ _ _ c.join.ensures.cause (λ wrong. absurd (causes.of-done _ wrong))

pub returns-in-Err-join-clause-takes : goal.returns-in-Err-join-clause-takes
returns-in-Err-join-clause-takes g c = λ us stood few role.
    takes-err c.args.self.now.decoder.asked us c.args.unit.now c.args.self.now c.join.new.self c.join.new.self c.in-Err-join.stop (c.in-Err-join.ensures.joins us c.args.unit.now stood few (told-vps us c.args.unit.now c.args.head role))

pub returns-in-Err-join-clause-asked : goal.returns-in-Err-join-clause-asked
returns-in-Err-join-clause-asked g c = c.join.ensures.asked

pub returns-in-Err-join-clause-cause : goal.returns-in-Err-join-clause-cause
returns-in-Err-join-clause-cause g c = causes.told _ _ _ _ c.join.ensures.cause (λ wrong. c.in-Err-join.is ∙ causes.same-stop c.in-Err-join.stop wrong)
