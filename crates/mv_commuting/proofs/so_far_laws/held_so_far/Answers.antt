use Rattle.mv_commuting.proofs.SoFar.{at_most-so-far, falls-so-far, held-counts-so-far}
use Rattle.mv_commuting.proofs.so_far_laws.held_so_far.Goals as goal

pub returns-clause-counts : goal.returns-clause-counts
returns-clause-counts c = held-counts-so-far

pub returns-clause-falls : goal.returns-clause-falls
returns-clause-falls c = falls-so-far

pub returns-clause-at_most : goal.returns-clause-at_most
returns-clause-at_most c = at_most-so-far
