use Rattle.mv_walk_values.proofs.Begun.{first_stands}
use Rattle.mv_walk_values.proofs.Continued.{skipped_stands}
use Rattle.mv_walk_values.proofs.Ready.{values_counted}
use Rattle.mv_walk_values.proofs.steps.a_first_segment_is_one_step.Goals as goal

pub returns-clause-decoded : goal.returns-clause-decoded
returns-clause-decoded g c = first_stands _

pub returns-clause-skipped : goal.returns-clause-skipped
returns-clause-skipped g c = skipped_stands _

pub returns-clause-counted : goal.returns-clause-counted
returns-clause-counted g c = values_counted _
