use Rattle.mv_history.proofs.Bumping.{length-waits}
use Rattle.mv_history.proofs.Tops.{gone-more, gone-sorted, gone-waits}
use Rattle.mv_history.proofs.order_laws.what_left_stays.Goals as goal

pub returns-clause-more : goal.returns-clause-more
returns-clause-more g c = gone-more

pub returns-clause-sorted : goal.returns-clause-sorted
returns-clause-sorted g c = gone-sorted

pub returns-clause-few : goal.returns-clause-few
returns-clause-few g c = length-waits

pub returns-clause-all : goal.returns-clause-all
returns-clause-all g c = gone-waits
