use Rattle.mv_walk_laws.proofs.Bases.{begins-behind}
use Rattle.mv_walk_laws.proofs.Steps.{all-earlier, begins-next, joins-same, none-later, stray-same}
use Rattle.mv_walk_laws.proofs.picture_laws.the_next_unit_joins_an_access_unit.Goals as goal

pub returns-clause-same : goal.returns-clause-same
returns-clause-same c = joins-same

pub returns-clause-next : goal.returns-clause-next
returns-clause-next c = begins-next

pub returns-clause-stray : goal.returns-clause-stray
returns-clause-stray c = stray-same

pub returns-clause-none_later : goal.returns-clause-none_later
returns-clause-none_later c = none-later

pub returns-clause-all_earlier : goal.returns-clause-all_earlier
returns-clause-all_earlier c = all-earlier

pub returns-clause-none_open : goal.returns-clause-none_open
returns-clause-none_open c = begins-behind
