use Rattle.mv_tried.proofs.Units.{only-tried}
use Rattle.mv_tried.proofs.laws.only_these_are_tried.Goals as goal

pub returns : goal.returns
returns c = only-tried
