use Rattle.mv_walk_laws.proofs.OneMore.{current-first, current-more, current-rises, number-is}
use Rattle.mv_walk_laws.proofs.stream_laws.the_latest_access_unit.Goals as goal

pub returns-clause-first : goal.returns-clause-first
returns-clause-first c = current-first

pub returns-clause-more : goal.returns-clause-more
returns-clause-more c = current-more

pub returns-clause-number : goal.returns-clause-number
returns-clause-number c = number-is

pub returns-clause-rises : goal.returns-clause-rises
returns-clause-rises c = current-rises
