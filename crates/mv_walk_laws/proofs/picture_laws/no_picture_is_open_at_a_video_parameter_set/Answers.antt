use Rattle.mv_walk_laws.proofs.Bases.{vps-behind, vps-closes}
use Rattle.mv_walk_laws.proofs.Steps.{vps-known, vps-no_slice}
use Rattle.mv_walk_laws.proofs.picture_laws.no_picture_is_open_at_a_video_parameter_set.Goals as goal

pub returns-clause-known : goal.returns-clause-known
returns-clause-known c = vps-known

pub returns-clause-no_slice : goal.returns-clause-no_slice
returns-clause-no_slice c = vps-no_slice

pub returns-clause-alone : goal.returns-clause-alone
returns-clause-alone c = vps-closes

pub returns-clause-closed : goal.returns-clause-closed
returns-clause-closed c = vps-behind
