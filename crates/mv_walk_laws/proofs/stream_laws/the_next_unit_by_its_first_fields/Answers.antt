use Rattle.mv_walk_laws.proofs.Peeking.{id-peeked, picture-peeked, told-other, told-segment}
use Rattle.mv_walk_laws.proofs.stream_laws.the_next_unit_by_its_first_fields.Goals as goal

pub returns-clause-picture : goal.returns-clause-picture
returns-clause-picture c = picture-peeked

pub returns-clause-id : goal.returns-clause-id
returns-clause-id c = id-peeked

pub returns-clause-told : goal.returns-clause-told
returns-clause-told c = told-other

pub returns-clause-told_segment : goal.returns-clause-told_segment
returns-clause-told_segment c = told-segment
