use Rattle.mv_walk_laws.proofs.OneMore.{au-of, fact-told, facts-told, item-of, placed-of, placed-told}
use Rattle.mv_walk_laws.proofs.stream_laws.histories_tell_their_units.Goals as goal

pub returns-clause-facts : goal.returns-clause-facts
returns-clause-facts c = facts-told

pub returns-clause-placed : goal.returns-clause-placed
returns-clause-placed c = placed-told

pub returns-clause-next : goal.returns-clause-next
returns-clause-next c = fact-told

pub returns-clause-its_place : goal.returns-clause-its_place
returns-clause-its_place c = placed-of

pub returns-clause-its_item : goal.returns-clause-its_item
returns-clause-its_item c = item-of

pub returns-clause-its_access_unit : goal.returns-clause-its_access_unit
returns-clause-its_access_unit c = au-of
