use Rattle.mv_walk_laws.proofs.Lengths.{facts-length, history-length, items-length}
use Rattle.mv_walk_laws.proofs.stream_laws.as_many_as_units.Goals as goal

pub returns-clause-items : goal.returns-clause-items
returns-clause-items c = items-length

pub returns-clause-facts : goal.returns-clause-facts
returns-clause-facts c = facts-length

pub returns-clause-history : goal.returns-clause-history
returns-clause-history c = history-length
