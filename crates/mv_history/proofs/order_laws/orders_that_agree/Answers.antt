use Rattle.mv_history.proofs.Instances.{sorted-agree, waits-agree, gone-agree}
use Rattle.mv_history.proofs.order_laws.orders_that_agree.Goals as goal

pub returns-clause-sorted : goal.returns-clause-sorted
returns-clause-sorted g c = sorted-agree

pub returns-clause-waits : goal.returns-clause-waits
returns-clause-waits g c = waits-agree

pub returns-clause-gone : goal.returns-clause-gone
returns-clause-gone g c = gone-agree
