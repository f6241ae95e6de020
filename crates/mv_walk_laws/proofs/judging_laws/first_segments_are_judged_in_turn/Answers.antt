use Rattle.mv_walk_laws.proofs.Verdicts.{first-accepted, first-picture, first-rest, first-segment, first-unit}
use Rattle.mv_walk_laws.proofs.judging_laws.first_segments_are_judged_in_turn.Goals as goal

pub returns-clause-segment : goal.returns-clause-segment
returns-clause-segment c = first-segment

pub returns-clause-access_unit : goal.returns-clause-access_unit
returns-clause-access_unit c = first-unit

pub returns-clause-picture : goal.returns-clause-picture
returns-clause-picture c = first-picture

pub returns-clause-accepted : goal.returns-clause-accepted
returns-clause-accepted c = first-accepted

pub returns-clause-rest : goal.returns-clause-rest
returns-clause-rest c = first-rest
