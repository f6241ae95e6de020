use Rattle.std.proofs.Common.{sym, ◌∙◌}
use Rattle.mv_walk.proofs.Causes as causes
use Rattle.mv_walk.proofs.Joins.{takes-err}
use Rattle.mv_walk.proofs.Passed.{no-slice, told-passed}
use Rattle.mv_walk.proofs.StoodMore.{passed-unobjected, told-none}
use Rattle.mv_walk.proofs.course.Course.take_passed.Goals as goal

pub join-requires : goal.join-requires
join-requires g c = record { has = record { units = c.requires.may.1.units; stood = c.requires.may.1.stood; few = c.requires.may.1.few } }

pub returns-in-Err-clause-takes : goal.returns-in-Err-clause-takes
returns-in-Err-clause-takes g c = λ us u stood few role. takes-err c.args.self.now.decoder.asked us u c.args.self.now c.join.new.self c.join.new.self c.in-Err.stop (c.in-Err.ensures.joins us u stood few (told-passed us u c.args.head role))

pub returns-in-Err-clause-asked : goal.returns-in-Err-clause-asked
returns-in-Err-clause-asked g c = c.join.ensures.asked

pub returns-in-Err-clause-cause : goal.returns-in-Err-clause-cause
returns-in-Err-clause-cause g c = causes.told _ _ _ _ c.join.ensures.cause (λ wrong. c.in-Err.is ∙ causes.same-stop c.in-Err.stop wrong)

pub pass-requires : goal.pass-requires
pass-requires g c = c.requires.may.1.its_role.low

pub returns-clause-takes : goal.returns-clause-takes
returns-clause-takes g c = λ us u stood few role. (
  passed-unobjected c.args.self.now.decoder.asked us u c.args.head role,
  c.pass.ensures.passed us u c.args.self.now (c.in_default.ensures.joins us u stood few (told-passed us u c.args.head role)).0 stood role,
  sym (told-none us u (no-slice us u c.args.head role)),
)

pub returns-clause-asked : goal.returns-clause-asked
returns-clause-asked g c = c.pass.ensures.asked ∙ c.join.ensures.asked

pub returns-clause-cause : goal.returns-clause-cause
returns-clause-cause g c = causes.told _ _ _ _ c.join.ensures.cause (λ wrong. absurd (causes.of-done _ wrong))
