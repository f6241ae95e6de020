use Rattle.std.proofs.Common.{Ok, Err}
use Rattle.mv_walk_segment.proofs.AddedLaws.{added-short, added-stands, added-takes, conditions, refused-takes}
use Rattle.mv_walk_segment.proofs.opened.OpenPicture.add.Goals as goal

pub with_segment-requires-clause-listed : goal.with_segment-requires-clause-listed
with_segment-requires-clause-listed c =
    let s = rw (← c.self.view_is) at c.requires.next in
    conditions c.args.vps.now _ c.args.head c.args.header.now s.past s.placed s.next _ c.context-ctx.ensures.value c.in_default.ensures c.context-ctx.ensures.fits

pub returns-in-Err-clause-answer : goal.returns-in-Err-clause-answer
returns-in-Err-clause-answer c =
    rw (← c.self.view_is)
    (λ past q next. refused-takes c.args.vps.now _ c.args.head c.args.header.now past q next _ c.context-ctx.ensures.value c.in-Err.rule c.in-Err.ensures)

pub returns-in-Err-with_segment-clause-answer : goal.returns-in-Err-with_segment-clause-answer
returns-in-Err-with_segment-clause-answer c =
    rw (← c.self.view_is)
    (λ past q next.
    added-takes c.args.vps.now _ c.args.head c.args.header.now past q next _ c.context-ctx.ensures.value c.in_default.ensures (Err c.in-Err-with_segment.fault) c.in-Err-with_segment.ensures.answer)

pub returns-in-Ok-clause-answer : goal.returns-in-Ok-clause-answer
returns-in-Ok-clause-answer c =
    rw (← c.self.view_is)
    (λ past q next.
    added-takes c.args.vps.now _ c.args.head c.args.header.now past q next _ c.context-ctx.ensures.value c.in_default.ensures (Ok c.in-Ok.field-0) c.in-Ok.ensures.answer)

pub returns-in-Ok-clause-stands : goal.returns-in-Ok-clause-stands
returns-in-Ok-clause-stands c =
    rw (← c.self.view_is)
    (λ past q next.
    added-stands c.args.vps.now _ c.args.head c.args.header.now past q next _ c.context-ctx.ensures.value c.in_default.ensures (Ok c.in-Ok.field-0) c.address_of-self-inside.result
    c.with_segment.new.decoded c.address_of-self-inside.ensures c.in-Ok.ensures.lists)

pub returns-in-Ok-clause-short : goal.returns-in-Ok-clause-short
returns-in-Ok-clause-short c =
    let s = rw (← c.self.view_is) at c.requires.next in
    rw (← c.self.view_is)
    (added-short c.args.vps.now _ c.args.head c.args.header.now s.past s.placed s.next _ c.context-ctx.ensures.value c.in_default.ensures c.with_segment.new.decoded c.in-Ok.ensures.lists
    c.context-ctx.ensures.fits)
