use Rattle.std.proofs.Common.{◌∙◌}
use Rattle.mv_walk_sets.proofs.RoleLaws.{end_is}
use Rattle.mv_walk_sets.proofs.roles.is_end.Goals as goal

pub returns : goal.returns
returns c = λ f same known. c.ends.ensures ∙ end_is f c.args.head same known
