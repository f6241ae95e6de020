use Rattle.mv_history.proofs.Instances.{map-sorted, map-waits, map-gone}
use Rattle.mv_history.proofs.order_laws.order_in_other_terms.Goals as goal

pub returns-clause-sorted : goal.returns-clause-sorted
returns-clause-sorted g c = map-sorted

pub returns-clause-waits : goal.returns-clause-waits
returns-clause-waits g c = map-waits

pub returns-clause-gone : goal.returns-clause-gone
returns-clause-gone g c = map-gone
