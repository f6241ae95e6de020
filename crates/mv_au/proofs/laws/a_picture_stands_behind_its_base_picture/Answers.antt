use Rattle.mv_au.proofs.TrackerLaws.{based-at}
use Rattle.mv_au.proofs.laws.a_picture_stands_behind_its_base_picture.Goals as goal

pub returns : goal.returns
returns c = based-at
