use Rattle.std.proofs.Common.{◌<◌, sym, subst, ◌∙◌, rules}
use Rattle.std.specs.Prelude.{slice_index}
use Rattle.mv_walk_sets.specs.InForce.{AreRead}
use Rattle.mv_walk.specs.Taking.{IsRole}
use Rattle.mv_walk.proofs.Causes as causes
use Rattle.mv_walk.proofs.Stepped.{HasHead, head-read, head-refused, role-refused, role-told, steps-err, steps-ok}
use Rattle.mv_walk.proofs.course.Course.step.Goals as goal

pub returns-in-Err-clause-steps : goal.returns-in-Err-clause-steps
returns-in-Err-clause-steps g c = λ us stood few. head-refused c.args.self.now.decoder.asked us c.args.unit.now c.args.self.now c.in-Err.rule c.requires.clean (sym c.in-Err.ensures)

pub returns-in-Err-clause-cause : goal.returns-in-Err-clause-cause
returns-in-Err-clause-cause g c = causes.unseen _ _ (causes.of-breaks c.in-Err.rule)

pub role_of-requires : goal.role_of-requires
role_of-requires g c = subst AreRead (sym c.as_ref.ensures.value) c.requires.has.stood.read

pub returns-in-Err-role_of-clause-steps : goal.returns-in-Err-role_of-clause-steps
returns-in-Err-role_of-clause-steps g c = λ us stood few.
    role-refused c.args.self.now.decoder.asked c.args.self.now c.args.self.now us c.args.unit.now c.in-Ok.head c.in-Err-role_of.rule _ stood (head-read c.args.unit.now c.in-Ok.head (sym c.in-Ok.ensures)) c.as_ref.ensures.value c.in-Err-role_of.ensures.decides

pub returns-in-Err-role_of-clause-cause : goal.returns-in-Err-role_of-clause-cause
returns-in-Err-role_of-clause-cause g c = causes.unseen _ _ (causes.of-breaks c.in-Err-role_of.rule)

pub take-requires : goal.take-requires
take-requires g c =
    let byte : slice_index c.args.unit.now 1 < 256 = search rules in
    record {
      may = record {
        units = c.requires.has.units;
        stood = c.requires.has.stood;
        few = c.requires.has.few;
        its_role = role-told c.args.self.now c.requires.has.units c.args.unit.now c.in-Ok.head c.in-Ok-role_of.role _ c.requires.has.stood c.requires.clean byte (head-read c.args.unit.now c.in-Ok.head (sym c.in-Ok.ensures)) c.as_ref.ensures.value c.in-Ok-role_of.ensures.role c.in-Ok-role_of.ensures.decides;
      };
    }

pub keeps-requires : goal.keeps-requires
keeps-requires g c =
    let byte : slice_index c.args.unit.now 1 < 256 = search rules in
    let role : IsRole c.requires.has.units c.args.unit.now c.in-Ok.head c.in-Ok-role_of.role =
    role-told c.args.self.now c.requires.has.units c.args.unit.now c.in-Ok.head c.in-Ok-role_of.role _ c.requires.has.stood c.requires.clean byte (head-read c.args.unit.now c.in-Ok.head (sym c.in-Ok.ensures)) c.as_ref.ensures.value c.in-Ok-role_of.ensures.role c.in-Ok-role_of.ensures.decides in
    subst AreRead (sym c.as_ref-in-Ok-take.ensures.value) (c.in-Ok-take.ensures.takes c.requires.has.units c.requires.has.stood c.requires.has.few role).1.read

pub returns-in-Ok-take-clause-steps : goal.returns-in-Ok-take-clause-steps
returns-in-Ok-take-clause-steps g c = λ us stood few.
    let byte : slice_index c.args.unit.now 1 < 256 = search rules in
    let has : HasHead c.args.unit.now c.in-Ok.head = head-read c.args.unit.now c.in-Ok.head (sym c.in-Ok.ensures) in
    let role : IsRole us c.args.unit.now c.in-Ok.head c.in-Ok-role_of.role =
    role-told c.args.self.now us c.args.unit.now c.in-Ok.head c.in-Ok-role_of.role _ stood c.requires.clean byte has c.as_ref.ensures.value c.in-Ok-role_of.ensures.role c.in-Ok-role_of.ensures.decides in
    steps-ok c.args.self.now c.take.new.self us c.args.unit.now c.in-Ok.head c.in-Ok-take.picture _ c.keeps.result has.head_is (c.in-Ok-take.ensures.takes us stood few role) c.as_ref-in-Ok-take.ensures.value c.take.ensures.asked c.keeps.ensures

pub returns-in-Ok-take-clause-asked : goal.returns-in-Ok-take-clause-asked
returns-in-Ok-take-clause-asked g c = c.take.ensures.asked

pub returns-in-Ok-take-clause-cause : goal.returns-in-Ok-take-clause-cause
returns-in-Ok-take-clause-cause g c = causes.told _ _ _ _ c.take.ensures.cause (λ wrong. absurd (causes.of-done _ wrong))

pub returns-in-Err-take-clause-steps : goal.returns-in-Err-take-clause-steps
returns-in-Err-take-clause-steps g c = λ us stood few.
    let byte : slice_index c.args.unit.now 1 < 256 = search rules in
    let role : IsRole us c.args.unit.now c.in-Ok.head c.in-Ok-role_of.role =
    role-told c.args.self.now us c.args.unit.now c.in-Ok.head c.in-Ok-role_of.role _ stood c.requires.clean byte (head-read c.args.unit.now c.in-Ok.head (sym c.in-Ok.ensures)) c.as_ref.ensures.value c.in-Ok-role_of.ensures.role c.in-Ok-role_of.ensures.decides in
    steps-err c.args.self.now.decoder.asked us c.args.unit.now c.take.new.self c.in-Err-take.stop (c.in-Err-take.ensures.takes us stood few role)

pub returns-in-Err-take-clause-asked : goal.returns-in-Err-take-clause-asked
returns-in-Err-take-clause-asked g c = c.take.ensures.asked

pub returns-in-Err-take-clause-cause : goal.returns-in-Err-take-clause-cause
returns-in-Err-take-clause-cause g c = causes.told _ _ _ _ c.take.ensures.cause (λ wrong. c.in-Err-take.is ∙ causes.same-stop c.in-Err-take.stop wrong)
