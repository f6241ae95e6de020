use Rattle.mv_rps.proofs.AnchorLaws.{anchor_base, anchor_decoded, anchor_other, anchor_start}
use Rattle.mv_rps.proofs.laws.anchors_are_those_of_pictures.Goals as goal

pub returns-clause-decoded : goal.returns-clause-decoded
returns-clause-decoded c = anchor_decoded

pub returns-clause-base : goal.returns-clause-base
returns-clause-base c = anchor_base

pub returns-clause-start : goal.returns-clause-start
returns-clause-start c = anchor_start

pub returns-clause-other : goal.returns-clause-other
returns-clause-other c = anchor_other
