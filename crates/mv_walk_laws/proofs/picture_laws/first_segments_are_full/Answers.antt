use Rattle.mv_walk_laws.proofs.Headers.{header-valid, next-full}
use Rattle.mv_walk_laws.proofs.picture_laws.first_segments_are_full.Goals as goal

pub returns-clause-valid : goal.returns-clause-valid
returns-clause-valid c = header-valid

pub returns-clause-full : goal.returns-clause-full
returns-clause-full c = next-full
