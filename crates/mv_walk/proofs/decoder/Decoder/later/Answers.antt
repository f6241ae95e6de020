use Rattle.std.proofs.Common.{refl}
use Rattle.mv_walk.proofs.Added.{added-takes, made-takes}
use Rattle.mv_walk.proofs.decoder.Decoder.later.Goals as goal

pub returns-in-Ok-clause-takes : goal.returns-in-Ok-clause-takes
returns-in-Ok-clause-takes g c = rw (← c.vps.view_is) (
    made-takes c.args.self.now _ c.args.head c.args.header.now c.in-Some.picture c.add.new.self c.add.result _ c.in_default-add.is c.in-Some.is
    c.add.ensures.answer c.add.ensures.stands c.add.ensures.keeps c.add.ensures.short
    c.in-Some-Some.making c.slice.new.self c.in-Some-Some.is-0 c.slice.ensures)

pub returns-in_default-2-clause-takes : goal.returns-in_default-2-clause-takes
returns-in_default-2-clause-takes g c = rw (← c.vps.view_is) (
    made-takes c.args.self.now _ c.args.head c.args.header.now c.in-Some.picture c.add.new.self c.add.result _ c.in_default-add.is c.in-Some.is
    c.add.ensures.answer c.add.ensures.stands c.add.ensures.keeps c.add.ensures.short
    c.in_default-2.field-0-0 c.in_default-2.field-0-0 c.in_default-2.is-0 refl)

pub returns-in_default-2-2-clause-takes : goal.returns-in_default-2-2-clause-takes
returns-in_default-2-2-clause-takes g c = rw (← c.vps.view_is) (
    added-takes c.args.self.now _ c.args.head c.args.header.now c.in-Some.picture c.add.new.self c.add.result _ c.in_default-add.is c.in-Some.is
    c.add.ensures.answer c.add.ensures.stands c.add.ensures.keeps c.add.ensures.short
    c.args.self.now.making (λ n. refl) (λ h. h) refl)
