use Rattle.mv_walk_laws.proofs.ByKind.{other-rule, whole-rule}
use Rattle.mv_walk_laws.proofs.judging_laws.rules_are_tried_in_parts.Goals as goal

pub returns-clause-whole : goal.returns-clause-whole
returns-clause-whole c = whole-rule

pub returns-clause-other : goal.returns-clause-other
returns-clause-other c = other-rule
