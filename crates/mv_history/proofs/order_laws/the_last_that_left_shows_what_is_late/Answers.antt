use Rattle.mv_history.proofs.Bumping.{late_is_before}
use Rattle.mv_history.proofs.Tops.{last_decides, none_decides}
use Rattle.mv_history.proofs.order_laws.the_last_that_left_shows_what_is_late.Goals as goal

pub returns-clause-any : goal.returns-clause-any
returns-clause-any g c = late_is_before

pub returns-clause-last : goal.returns-clause-last
returns-clause-last g c = last_decides

pub returns-clause-none : goal.returns-clause-none
returns-clause-none g c = none_decides
