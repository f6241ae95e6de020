use Rattle.mv_walk_laws.proofs.Peeking.{unopened}
use Rattle.mv_walk_laws.proofs.judging_laws.segments_need_their_first_fields.Goals as goal

pub returns : goal.returns
returns c = unopened
