use Rattle.mv_walk_values.proofs.Standing.{no_output}
use Rattle.mv_walk_values.proofs.TimelySteps.{first_in_time, later_in_time, skipped_in_time, start_in_time}
use Rattle.mv_walk_values.proofs.steps.a_segment_keeps_the_time.Goals as goal

pub returns-clause-first : goal.returns-clause-first
returns-clause-first g c = first_in_time

pub returns-clause-skipped : goal.returns-clause-skipped
returns-clause-skipped g c = skipped_in_time

pub returns-clause-start : goal.returns-clause-start
returns-clause-start g c = start_in_time

pub returns-clause-later : goal.returns-clause-later
returns-clause-later g c = later_in_time

pub returns-clause-undecoded : goal.returns-clause-undecoded
returns-clause-undecoded g c = no_output
