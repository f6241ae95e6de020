use Rattle.mv_commuting.proofs.SoFar.{counts-so-far, pictures-so-far}
use Rattle.mv_commuting.proofs.so_far_laws.pictures_so_far.Goals as goal

pub returns-clause-rise : goal.returns-clause-rise
returns-clause-rise c = pictures-so-far

pub returns-clause-counts : goal.returns-clause-counts
returns-clause-counts c = counts-so-far
