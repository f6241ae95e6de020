use Rattle.std.proofs.Common.{refl}
use Rattle.mv_history.specs.Order.{waits}
use Rattle.mv_dpb.proofs.OrderLaws.{after-more}
use Rattle.mv_dpb.proofs.laws.the_order_kept_shows_what_is_late.Goals as goal

pub returns-clause-begins : goal.returns-clause-begins
unfolding waits
returns-clause-begins c = λ reorder. refl

pub returns-clause-more : goal.returns-clause-more
returns-clause-more c = after-more
