use Rattle.mv_units.proofs.Pieces.{pieces-IsSplit, pieces-unique}
use Rattle.mv_units.proofs.laws.pieces_are_the_one_split.Goals as goal

pub returns-clause-split : goal.returns-clause-split
returns-clause-split c = λ s. pieces-IsSplit s

pub returns-clause-only : goal.returns-clause-only
returns-clause-only c = λ s ps h. pieces-unique s ps h
