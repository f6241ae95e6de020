use Rattle.mv_walk_layer.proofs.Telling.{counts-base, counts-decoded, counts-start}
use Rattle.mv_walk_layer.proofs.laws.counts_are_those_of_rules.Goals as goal

pub returns-clause-decoded : goal.returns-clause-decoded
returns-clause-decoded g c = counts-decoded

pub returns-clause-start : goal.returns-clause-start
returns-clause-start g c = counts-start

pub returns-clause-base : goal.returns-clause-base
returns-clause-base g c = counts-base
