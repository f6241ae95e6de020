use Rattle.mv_walk_laws.proofs.OneCount.{next-agrees, one-count, steady}
use Rattle.mv_walk_laws.proofs.picture_laws.an_access_unit_has_one_count.Goals as goal

pub returns-clause-one_count : goal.returns-clause-one_count
returns-clause-one_count c = one-count

pub returns-clause-steady : goal.returns-clause-steady
returns-clause-steady c = steady

pub returns-clause-next : goal.returns-clause-next
returns-clause-next c = next-agrees
