use Rattle.std.proofs.Common.{◌∙◌}
use Rattle.mv_walk_sets.proofs.LayerLaws.{directs_is}
use Rattle.mv_walk_sets.proofs.in_force.directs.Goals as goal

pub returns : goal.returns
returns c = λ at e. c.directs_in.ensures ∙ directs_is at c.args.vps.now c.args.layer e
