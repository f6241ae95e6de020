use Rattle.mv_layers.proofs.ClosureLaws.{itself, closed, least, found_reached, all_reached}
use Rattle.mv_layers.proofs.laws.reference_laws.Goals as goal

pub returns-clause-found : goal.returns-clause-found
returns-clause-found c = λ flags i k. found_reached flags i i k

pub returns-clause-all : goal.returns-clause-all
returns-clause-all c = all_reached

pub returns-clause-itself : goal.returns-clause-itself
returns-clause-itself c = λ flags i. itself flags i i

pub returns-clause-closed : goal.returns-clause-closed
returns-clause-closed c = closed

pub returns-clause-least : goal.returns-clause-least
returns-clause-least c = λ flags members all i k. least flags members all i i k
