use Rattle.mv_walk_layer.proofs.Sums.{sums-few, sums-total}
use Rattle.mv_walk_layer.proofs.laws.references_are_as_many_as_counted.Goals as goal

pub returns-clause-total : goal.returns-clause-total
returns-clause-total c = sums-total

pub returns-clause-few : goal.returns-clause-few
returns-clause-few c = sums-few
