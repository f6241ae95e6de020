use Rattle.mv_commuting.proofs.Bytes.{event-accepted, event-extract, units-extract}
use Rattle.mv_commuting.proofs.laws.extracts_are_accepted_as_bytes.Goals as goal

pub returns-clause-whole : goal.returns-clause-whole
returns-clause-whole c = event-accepted

pub returns-clause-accepted : goal.returns-clause-accepted
returns-clause-accepted c = event-extract

pub returns-clause-units : goal.returns-clause-units
returns-clause-units c = units-extract
