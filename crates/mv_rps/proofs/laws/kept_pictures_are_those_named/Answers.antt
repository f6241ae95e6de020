use Rattle.mv_rps.proofs.StandLaws.{kept_told}
use Rattle.mv_rps.proofs.laws.kept_pictures_are_those_named.Goals as goal

pub returns : goal.returns
returns c = kept_told
