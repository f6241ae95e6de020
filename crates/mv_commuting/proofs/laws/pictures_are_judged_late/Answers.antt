use Rattle.mv_commuting.proofs.Late.{judged_late}
use Rattle.mv_commuting.proofs.laws.pictures_are_judged_late.Goals as goal

pub returns : goal.returns
returns c = judged_late
