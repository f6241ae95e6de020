use Rattle.mv_history.proofs.Bumping.{bumped}
use Rattle.mv_history.proofs.order_laws.bumping_is_the_sort.Goals as goal

pub returns : goal.returns
returns g c = bumped
