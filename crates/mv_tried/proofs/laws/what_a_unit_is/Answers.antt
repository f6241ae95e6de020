use Rattle.mv_tried.proofs.Roles as roles
use Rattle.mv_tried.proofs.laws.what_a_unit_is.Goals as goal

pub returns-clause-video_set : goal.returns-clause-video_set
returns-clause-video_set c = roles.video_set-is

pub returns-clause-stray : goal.returns-clause-stray
returns-clause-stray c = roles.stray-is

pub returns-clause-first : goal.returns-clause-first
returns-clause-first c = roles.first-is

pub returns-clause-later : goal.returns-clause-later
returns-clause-later c = roles.later-is

pub returns-clause-sequence_set : goal.returns-clause-sequence_set
returns-clause-sequence_set c = roles.sequence_set-is

pub returns-clause-picture_set : goal.returns-clause-picture_set
returns-clause-picture_set c = roles.picture_set-is

pub returns-clause-passed : goal.returns-clause-passed
returns-clause-passed c = roles.passed-is
