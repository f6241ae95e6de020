use Rattle.std.proofs.Common.{◌≡◌, rules, subst}
use Rattle.mv_syntax.specs.Printed.{printed}
use Rattle.mv_sps.specs.Opening.{opening}
use Rattle.mv_sps.proofs.opening.print_opening.Goals as goal

pub returns : goal.returns
unfolding opening
returns c = subst (λ v. c.ue.new.self ≡ printed (opening c.args.layer c.args.vps_sub_layers) v c.args.out.now) c.v.view_is (search rules)
