use Rattle.mv_walk_laws.proofs.ByKind.{head-breaks, item-breaks}
use Rattle.mv_walk_laws.proofs.judging_laws.the_rules_on_a_unit_alone_come_first.Goals as goal

pub returns-clause-item : goal.returns-clause-item
returns-clause-item c = item-breaks

pub returns-clause-head : goal.returns-clause-head
returns-clause-head c = head-breaks
