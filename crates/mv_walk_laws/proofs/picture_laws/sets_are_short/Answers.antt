use Rattle.mv_walk_laws.proofs.Sizes.{next-short, pps-size, sps-size, vps-size}
use Rattle.mv_walk_laws.proofs.picture_laws.sets_are_short.Goals as goal

pub returns-clause-vps : goal.returns-clause-vps
returns-clause-vps c = vps-size

pub returns-clause-sps : goal.returns-clause-sps
returns-clause-sps c = sps-size

pub returns-clause-pps : goal.returns-clause-pps
returns-clause-pps c = pps-size

pub returns-clause-next : goal.returns-clause-next
returns-clause-next c = next-short
