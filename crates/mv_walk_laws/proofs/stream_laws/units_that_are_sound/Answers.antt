use Rattle.mv_walk_laws.proofs.Sound.{sound-first, sound-more}
use Rattle.mv_walk_laws.proofs.stream_laws.units_that_are_sound.Goals as goal

pub returns-clause-first : goal.returns-clause-first
returns-clause-first c = sound-first

pub returns-clause-more : goal.returns-clause-more
returns-clause-more c = sound-more
