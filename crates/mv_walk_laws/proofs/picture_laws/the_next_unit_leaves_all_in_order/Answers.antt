use Rattle.mv_walk_laws.proofs.Behind.{next-counts, next-falls, next-few, next-steady, unbroken-more}
use Rattle.mv_walk_laws.proofs.picture_laws.the_next_unit_leaves_all_in_order.Goals as goal

pub returns-clause-breaks_none : goal.returns-clause-breaks_none
returns-clause-breaks_none c = unbroken-more

pub returns-clause-counts : goal.returns-clause-counts
returns-clause-counts c = next-counts

pub returns-clause-falls : goal.returns-clause-falls
returns-clause-falls c = next-falls

pub returns-clause-few : goal.returns-clause-few
returns-clause-few c = next-few

pub returns-clause-steady : goal.returns-clause-steady
returns-clause-steady c = next-steady
