use Rattle.mv_commuting.proofs.More.{history-more}
use Rattle.mv_walk_laws.proofs.OneMore.{facts-more, items-more, placed-more}
use Rattle.mv_walk_laws.proofs.stream_laws.units_with_one_more.Goals as goal

pub returns-clause-items : goal.returns-clause-items
returns-clause-items c = items-more

pub returns-clause-placed : goal.returns-clause-placed
returns-clause-placed c = placed-more

pub returns-clause-facts : goal.returns-clause-facts
returns-clause-facts c = facts-more

pub returns-clause-history : goal.returns-clause-history
returns-clause-history c = history-more
