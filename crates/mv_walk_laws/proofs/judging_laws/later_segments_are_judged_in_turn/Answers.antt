use Rattle.mv_walk_laws.proofs.Verdicts.{later-accepted, later-picture, later-segment, later-unit}
use Rattle.mv_walk_laws.proofs.judging_laws.later_segments_are_judged_in_turn.Goals as goal

pub returns-clause-segment : goal.returns-clause-segment
returns-clause-segment c = later-segment

pub returns-clause-access_unit : goal.returns-clause-access_unit
returns-clause-access_unit c = later-unit

pub returns-clause-picture : goal.returns-clause-picture
returns-clause-picture c = later-picture

pub returns-clause-accepted : goal.returns-clause-accepted
returns-clause-accepted c = later-accepted
