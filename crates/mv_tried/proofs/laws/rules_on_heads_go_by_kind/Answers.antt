use Rattle.mv_tried.proofs.Heads as heads
use Rattle.mv_tried.proofs.laws.rules_on_heads_go_by_kind.Goals as goal

pub returns-clause-segment : goal.returns-clause-segment
returns-clause-segment c = heads.segment-needs

pub returns-clause-picture_set : goal.returns-clause-picture_set
returns-clause-picture_set c = heads.picture_set-needs

pub returns-clause-sequence_set : goal.returns-clause-sequence_set
returns-clause-sequence_set c = heads.sequence_set-needs

pub returns-clause-other : goal.returns-clause-other
returns-clause-other c = heads.other-needs

pub returns-clause-video_set_tid : goal.returns-clause-video_set_tid
returns-clause-video_set_tid c = heads.video_set-tid

pub returns-clause-sequence_set_tid : goal.returns-clause-sequence_set_tid
returns-clause-sequence_set_tid c = heads.sequence_set-tid
