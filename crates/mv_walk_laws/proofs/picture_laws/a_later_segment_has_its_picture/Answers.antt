use Rattle.mv_walk_laws.proofs.Laters.{later-picture}
use Rattle.mv_walk_laws.proofs.picture_laws.a_later_segment_has_its_picture.Goals as goal

pub returns : goal.returns
returns c = later-picture
