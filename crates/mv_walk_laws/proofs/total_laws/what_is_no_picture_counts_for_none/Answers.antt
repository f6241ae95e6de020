use Rattle.mv_walk_laws.proofs.Behind.{plain-begins, plain-decoded, plain-pictures, plain-sequences}
use Rattle.mv_walk_laws.proofs.total_laws.what_is_no_picture_counts_for_none.Goals as goal

pub returns-clause-decoded : goal.returns-clause-decoded
returns-clause-decoded c = plain-decoded

pub returns-clause-begins : goal.returns-clause-begins
returns-clause-begins c = plain-begins

pub returns-clause-pictures : goal.returns-clause-pictures
returns-clause-pictures c = plain-pictures

pub returns-clause-sequences : goal.returns-clause-sequences
returns-clause-sequences c = plain-sequences
