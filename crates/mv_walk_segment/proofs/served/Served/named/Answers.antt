use Rattle.mv_pictures.specs.Facts.{named_sets}
use Rattle.mv_walk_segment.proofs.NamedLaws.{asked-by, known-there, named-there, named-valid, names-lack, names-with, serving-with}
use Rattle.mv_walk_segment.proofs.served.Served.named.Goals as goal

pub returns-in-Ok-clause-answer : goal.returns-in-Ok-clause-answer
returns-in-Ok-clause-answer c = λ past q stands segment.
    names-with c.with.result c.in-Ok.active (named_sets past q) c.with.ensures.sets c.with.ensures.memory (c.in-Ok.ensures past q stands (asked-by c.args.vps.now c.args.head c.args.pps_id q segment))

pub returns-in-Ok-clause-serving : goal.returns-in-Ok-clause-serving
returns-in-Ok-clause-serving c =
    let s = c.requires.segment in
    serving-with c.args.vps.now c.args.head c.with.result c.in-Ok.active (known-there c.args.vps.now c.args.head c.args.pps_id s.placed s.segment)
    (named-valid c.args.vps.now c.args.head c.args.pps_id c.in-Ok.active s.past s.placed c.requires.vps s.carried s.segment
    (named-there (named_sets s.past s.placed) c.in-Ok.active (c.in-Ok.ensures s.past s.placed s.stands (asked-by c.args.vps.now c.args.head c.args.pps_id s.placed s.segment))))
    c.with.ensures.sets c.with.ensures.layers

pub returns-in-Err-clause-answer : goal.returns-in-Err-clause-answer
returns-in-Err-clause-answer c = λ past q stands segment.
    names-lack c.in-Err.fault (named_sets past q) (c.in-Err.ensures past q stands (asked-by c.args.vps.now c.args.head c.args.pps_id q segment))
