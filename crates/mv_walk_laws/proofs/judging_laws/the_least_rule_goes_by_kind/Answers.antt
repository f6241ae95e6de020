use Rattle.mv_walk_laws.proofs.ByKind.{first-breaks, later-breaks, passed-breaks, picture_set-breaks, sequence-breaks, stray-breaks, video-breaks}
use Rattle.mv_walk_laws.proofs.judging_laws.the_least_rule_goes_by_kind.Goals as goal

pub returns-clause-stray : goal.returns-clause-stray
returns-clause-stray c = stray-breaks

pub returns-clause-passed : goal.returns-clause-passed
returns-clause-passed c = passed-breaks

pub returns-clause-video_set : goal.returns-clause-video_set
returns-clause-video_set c = video-breaks

pub returns-clause-sequence_set : goal.returns-clause-sequence_set
returns-clause-sequence_set c = sequence-breaks

pub returns-clause-picture_set : goal.returns-clause-picture_set
returns-clause-picture_set c = picture_set-breaks

pub returns-clause-first : goal.returns-clause-first
returns-clause-first c = first-breaks

pub returns-clause-later : goal.returns-clause-later
returns-clause-later c = later-breaks
