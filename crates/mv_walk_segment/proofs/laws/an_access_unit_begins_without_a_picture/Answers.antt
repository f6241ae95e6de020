use Rattle.mv_walk_segment.proofs.AfterLaws.{none-stands}
use Rattle.mv_walk_segment.proofs.laws.an_access_unit_begins_without_a_picture.Goals as goal

pub returns : goal.returns
returns c = none-stands
