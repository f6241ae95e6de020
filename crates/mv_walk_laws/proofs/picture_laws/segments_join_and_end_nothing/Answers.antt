use Rattle.mv_walk_laws.proofs.Segments.{later-begins, later-same, segment-ends, segment-layer_ends}
use Rattle.mv_walk_laws.proofs.picture_laws.segments_join_and_end_nothing.Goals as goal

pub returns-clause-begins : goal.returns-clause-begins
returns-clause-begins c = later-begins

pub returns-clause-same : goal.returns-clause-same
returns-clause-same c = later-same

pub returns-clause-ends : goal.returns-clause-ends
returns-clause-ends c = segment-ends

pub returns-clause-layer_ends : goal.returns-clause-layer_ends
returns-clause-layer_ends c = segment-layer_ends
