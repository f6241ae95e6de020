use Rattle.std.proofs.Common.{◌∙◌, sym, subst}
use Rattle.mv_pictures.specs.Items.{item}
use Rattle.mv_walk_sets.specs.Roles.{Decides}
use Rattle.mv_walk_sets.proofs.DecideLaws.{decides_behind}
use Rattle.mv_walk_sets.proofs.RoleLaws.{role_is}
use Rattle.mv_walk_sets.proofs.roles.role_of.Goals as goal

pub returns-clause-role : goal.returns-clause-role
returns-clause-role c = λ past u s. c.role_at.ensures ∙ role_is past u _ c.args.head s

pub returns-clause-decides : goal.returns-clause-decides
returns-clause-decides c = λ past u f s clean is. subst (Decides (item past u) f) (sym (c.role_at.ensures ∙ role_is past u _ c.args.head s)) (decides_behind past u f clean is)
