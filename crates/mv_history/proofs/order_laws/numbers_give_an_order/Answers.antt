use Rattle.mv_history.proofs.Instances.{by-order, rising-agree}
use Rattle.mv_history.proofs.order_laws.numbers_give_an_order.Goals as goal

pub returns-clause-order : goal.returns-clause-order
returns-clause-order g c = by-order

pub returns-clause-places : goal.returns-clause-places
returns-clause-places g c = rising-agree
