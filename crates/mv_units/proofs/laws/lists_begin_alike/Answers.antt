use Rattle.mv_units.proofs.Starts.{starts-length, starts-take}
use Rattle.mv_units.proofs.laws.lists_begin_alike.Goals as goal

pub returns-clause-first : goal.returns-clause-first
returns-clause-first c = starts-take

pub returns-clause-length : goal.returns-clause-length
returns-clause-length c = starts-length
