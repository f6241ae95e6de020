use Rattle.mv_walk_laws.proofs.Verdicts.{passed-accepted, picture_set-accepted, picture_set-refused, sequence-accepted, sequence-refused, stray-accepted, video-lacking, video-refused}
use Rattle.mv_walk_laws.proofs.judging_laws.other_units_are_judged_in_turn.Goals as goal

pub returns-clause-video_refused : goal.returns-clause-video_refused
returns-clause-video_refused c = video-refused

pub returns-clause-video_lacking : goal.returns-clause-video_lacking
returns-clause-video_lacking c = video-lacking

pub returns-clause-sequence_refused : goal.returns-clause-sequence_refused
returns-clause-sequence_refused c = sequence-refused

pub returns-clause-sequence_accepted : goal.returns-clause-sequence_accepted
returns-clause-sequence_accepted c = sequence-accepted

pub returns-clause-picture_refused : goal.returns-clause-picture_refused
returns-clause-picture_refused c = picture_set-refused

pub returns-clause-picture_accepted : goal.returns-clause-picture_accepted
returns-clause-picture_accepted c = picture_set-accepted

pub returns-clause-stray : goal.returns-clause-stray
returns-clause-stray c = stray-accepted

pub returns-clause-passed : goal.returns-clause-passed
returns-clause-passed c = passed-accepted
