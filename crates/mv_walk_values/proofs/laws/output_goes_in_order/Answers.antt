use Rattle.mv_walk_values.proofs.Showing.{shows_all, shows_begun, shows_first, shows_given, shows_pushed}
use Rattle.mv_walk_values.proofs.laws.output_goes_in_order.Goals as goal

pub returns-clause-given : goal.returns-clause-given
returns-clause-given g c = shows_given

pub returns-clause-comes : goal.returns-clause-comes
returns-clause-comes g c = shows_pushed

pub returns-clause-begun : goal.returns-clause-begun
returns-clause-begun g c = shows_begun

pub returns-clause-first : goal.returns-clause-first
returns-clause-first g c = shows_first

pub returns-clause-all : goal.returns-clause-all
returns-clause-all g c = shows_all
