use Rattle.std.proofs.Common.{◌∙◌}
use Rattle.mv_walk_sets.proofs.LayerLaws.{view_is}
use Rattle.mv_walk_sets.proofs.in_force.view.Goals as goal

pub returns : goal.returns
returns c = λ at e. c.view_in.ensures ∙ view_is at c.args.vps.now c.args.layer e
