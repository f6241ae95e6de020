use Rattle.mv_rps.proofs.StandLaws.{part_after, part_before, part_long}
use Rattle.mv_rps.proofs.laws.parts_are_those_matched.Goals as goal

pub returns-clause-before : goal.returns-clause-before
returns-clause-before c = part_before

pub returns-clause-after : goal.returns-clause-after
returns-clause-after c = part_after

pub returns-clause-long : goal.returns-clause-long
returns-clause-long c = part_long
