use Rattle.mv_walk_values.proofs.FirstFacts.{output_by}
use Rattle.mv_walk_values.proofs.Ready.{count_by, segment_told, start_told}
use Rattle.mv_walk_values.proofs.steps.a_first_segment_tells_of_its_picture.Goals as goal

pub returns-clause-start : goal.returns-clause-start
returns-clause-start c = start_told

pub returns-clause-segment : goal.returns-clause-segment
returns-clause-segment c = segment_told

pub returns-clause-count : goal.returns-clause-count
returns-clause-count c = count_by

pub returns-clause-output : goal.returns-clause-output
returns-clause-output c = output_by
