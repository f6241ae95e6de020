use Rattle.mv_walk_segment.proofs.AfterLaws.{first-stands}
use Rattle.mv_walk_segment.proofs.laws.a_first_segment_opens_a_picture.Goals as goal

pub returns : goal.returns
returns c = first-stands
