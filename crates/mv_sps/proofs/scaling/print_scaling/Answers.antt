use Rattle.std.proofs.Common.{◌≡◌, rules, subst}
use Rattle.mv_syntax.specs.Printed.{printed}
use Rattle.mv_sps.specs.Scaling.{scaling}
use Rattle.mv_sps.proofs.scaling.print_scaling.Goals as goal

pub returns : goal.returns
unfolding scaling
returns c = subst (λ v. c.print_scaling_lists_if.new.out ≡ printed (scaling c.args.ext) v c.args.out.now) c.v.view_is (search rules)
