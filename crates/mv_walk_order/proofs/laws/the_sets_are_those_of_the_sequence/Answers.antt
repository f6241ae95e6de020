use Rattle.mv_walk_order.proofs.OrderLaws.{outputs-are, reorder-is}
use Rattle.mv_walk_order.proofs.laws.the_sets_are_those_of_the_sequence.Goals as goal

pub returns-clause-outputs : goal.returns-clause-outputs
returns-clause-outputs c = λ s past d h o. outputs-are s.sets d h.sets_are o

pub returns-clause-reorder : goal.returns-clause-reorder
returns-clause-reorder c = λ s past d h o lt. reorder-is s.sets d h.sets_are o lt
