use Rattle.mv_walk_laws.proofs.Changes.{change-first, change-new, change-next, change-other, other-turns}
use Rattle.mv_walk_laws.proofs.stream_laws.the_latest_change.Goals as goal

pub returns-clause-first : goal.returns-clause-first
returns-clause-first c = change-first

pub returns-clause-other : goal.returns-clause-other
returns-clause-other c = change-other

pub returns-clause-only_video_sets : goal.returns-clause-only_video_sets
returns-clause-only_video_sets c = other-turns

pub returns-clause-changed : goal.returns-clause-changed
returns-clause-changed c = change-new

pub returns-clause-next : goal.returns-clause-next
returns-clause-next c = change-next
