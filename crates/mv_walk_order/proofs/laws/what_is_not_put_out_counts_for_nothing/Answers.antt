use Rattle.mv_walk_order.proofs.OrderLaws.{goes-on, no_picture, unshown}
use Rattle.mv_walk_order.proofs.laws.what_is_not_put_out_counts_for_nothing.Goals as goal

pub returns-clause-goes_on : goal.returns-clause-goes_on
returns-clause-goes_on c = goes-on

pub returns-clause-not_shown : goal.returns-clause-not_shown
returns-clause-not_shown c = unshown

pub returns-clause-no_picture : goal.returns-clause-no_picture
returns-clause-no_picture c = no_picture
