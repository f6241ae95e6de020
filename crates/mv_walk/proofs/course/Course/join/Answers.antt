use Rattle.std.proofs.Common.{refl, ◌∙◌}
use Rattle.mv_pictures.specs.History.{history_of}
use Rattle.mv_walk.proofs.Causes.{of-breaks, same-stop, told}
use Rattle.mv_walk.proofs.Causes as causes
use Rattle.mv_walk.proofs.Joins.{joins-err, refused-never}
use Rattle.mv_walk.proofs.Joining.{few-items, joined}
use Rattle.mv_walk.proofs.course.Course.join.Goals as goal

pub returns-in-Err-clause-joins : goal.returns-in-Err-clause-joins
returns-in-Err-clause-joins g c = λ us u stood few is. refused-never us u c.args.head c.in-Err.rule is (c.in-Err.ensures.answer _ _ stood.units_are is (few-items us few))

pub returns-in-Err-clause-rest : goal.returns-in-Err-clause-rest
returns-in-Err-clause-rest g c = refl

pub returns-in-Err-clause-asked : goal.returns-in-Err-clause-asked
returns-in-Err-clause-asked g c = refl

pub returns-in-Err-clause-cause : goal.returns-in-Err-clause-cause
returns-in-Err-clause-cause g c = causes.unseen _ _ (of-breaks c.in-Err.rule)

pub between-requires : goal.between-requires
between-requires g c = record { kept = record { past = history_of c.requires.has.units; keeps = c.requires.has.stood.decoder_is.keeps } }

pub returns-in-Ok-between-clause-joins : goal.returns-in-Ok-between-clause-joins
returns-in-Ok-between-clause-joins g c = λ us u stood few is.
    joined c.args.self.now _ us u c.args.head c.in-Ok.step stood is (c.in-Ok.ensures.answer _ _ stood.units_are is (few-items us few)) (c.in-Ok.ensures.stands _ _ stood.units_are is (few-items us few) refl)
    c.in-Ok-between.ensures.between refl c.between.ensures.asked

pub returns-in-Ok-between-clause-rest : goal.returns-in-Ok-between-clause-rest
returns-in-Ok-between-clause-rest g c = refl

pub returns-in-Ok-between-clause-asked : goal.returns-in-Ok-between-clause-asked
returns-in-Ok-between-clause-asked g c = c.between.ensures.asked

pub returns-in-Ok-between-clause-cause : goal.returns-in-Ok-between-clause-cause
returns-in-Ok-between-clause-cause g c = told _ _ _ _ c.between.ensures.cause (λ wrong. absurd (causes.of-done c.in-Ok.step wrong))

pub returns-in-Err-between-clause-joins : goal.returns-in-Err-between-clause-joins
returns-in-Err-between-clause-joins g c = λ us u stood few is. joins-err (Unit {0}) us u c.args.self.now c.args.self.now c.in-Err-between.stop c.in-Err-between.ensures.breaks

pub returns-in-Err-between-clause-rest : goal.returns-in-Err-between-clause-rest
returns-in-Err-between-clause-rest g c = refl

pub returns-in-Err-between-clause-asked : goal.returns-in-Err-between-clause-asked
returns-in-Err-between-clause-asked g c = c.between.ensures.asked

pub returns-in-Err-between-clause-cause : goal.returns-in-Err-between-clause-cause
returns-in-Err-between-clause-cause g c = told _ _ _ _ c.between.ensures.cause (λ wrong. c.in-Err-between.is ∙ same-stop c.in-Err-between.stop wrong)
