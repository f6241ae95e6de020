use Rattle.mv_walk_laws.proofs.Carrying.{other-carries, picture-carries, pps-is, sequence-carries, slice-carries, sps-is, stray-carries, turned-is, video-carries}
use Rattle.mv_walk_laws.proofs.stream_laws.what_the_next_unit_carries.Goals as goal

pub returns-clause-turned : goal.returns-clause-turned
returns-clause-turned c = turned-is

pub returns-clause-sps : goal.returns-clause-sps
returns-clause-sps c = sps-is

pub returns-clause-pps : goal.returns-clause-pps
returns-clause-pps c = pps-is

pub returns-clause-stray : goal.returns-clause-stray
returns-clause-stray c = stray-carries

pub returns-clause-other : goal.returns-clause-other
returns-clause-other c = other-carries

pub returns-clause-video_set : goal.returns-clause-video_set
returns-clause-video_set c = video-carries

pub returns-clause-sequence_set : goal.returns-clause-sequence_set
returns-clause-sequence_set c = sequence-carries

pub returns-clause-picture_set : goal.returns-clause-picture_set
returns-clause-picture_set c = picture-carries

pub returns-clause-slice : goal.returns-clause-slice
returns-clause-slice c = slice-carries
