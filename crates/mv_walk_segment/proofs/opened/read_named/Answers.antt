use Rattle.std.proofs.Common.{◌∙◌}
use Rattle.mv_walk_segment.proofs.NamedLaws.{reads-lack}
use Rattle.mv_walk_segment.proofs.opened.read_named.Goals as goal

pub returns-in-Ok : goal.returns-in-Ok
returns-in-Ok c = λ past q stands segment bytes named.
    c.read.ensures.answer past q c.args.pps_id segment bytes (named ∙ c.in-Ok.ensures.answer past q stands segment)

pub returns-in-Err : goal.returns-in-Err
returns-in-Err c = λ past q stands segment bytes named. reads-lack past q c.args.pps_id c.in-Err.fault segment.id_is named (c.in-Err.ensures.answer past q stands segment)
