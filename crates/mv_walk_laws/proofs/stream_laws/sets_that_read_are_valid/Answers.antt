use Rattle.mv_walk_laws.proofs.CarriedSets.{all-carry, pps-valid, sps-valid}
use Rattle.mv_walk_laws.proofs.stream_laws.sets_that_read_are_valid.Goals as goal

pub returns-clause-carried : goal.returns-clause-carried
returns-clause-carried c = all-carry

pub returns-clause-sps : goal.returns-clause-sps
returns-clause-sps c = sps-valid

pub returns-clause-pps : goal.returns-clause-pps
returns-clause-pps c = pps-valid
