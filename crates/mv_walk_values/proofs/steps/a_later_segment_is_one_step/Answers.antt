use Rattle.mv_walk_values.proofs.Continued.{later_stands, passed_stands}
use Rattle.mv_walk_values.proofs.steps.a_later_segment_is_one_step.Goals as goal

pub returns-clause-decoded : goal.returns-clause-decoded
returns-clause-decoded g c = later_stands _

pub returns-clause-skipped : goal.returns-clause-skipped
returns-clause-skipped g c = passed_stands _
