use Rattle.mv_walk_laws.proofs.OneMore.{vps-before, vps-first, vps-more, vps-other, vps-repeated, vps-same}
use Rattle.mv_walk_laws.proofs.stream_laws.the_video_parameter_set_in_force.Goals as goal

pub returns-clause-first : goal.returns-clause-first
returns-clause-first c = vps-first

pub returns-clause-before : goal.returns-clause-before
returns-clause-before c = vps-before

pub returns-clause-more : goal.returns-clause-more
returns-clause-more c = vps-more

pub returns-clause-other : goal.returns-clause-other
returns-clause-other c = vps-other

pub returns-clause-same : goal.returns-clause-same
returns-clause-same c = vps-same

pub returns-clause-repeated : goal.returns-clause-repeated
returns-clause-repeated c = vps-repeated
