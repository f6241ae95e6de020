use Rattle.std.proofs.Common.{◌≡◌, rules, subst}
use Rattle.mv_syntax.specs.Printed.{printed}
use Rattle.mv_sps.specs.Sps.{sps_fields, behind_opening, ending}
use Rattle.mv_sps.proofs.sps.print_fields.Goals as goal

pub returns : goal.returns
unfolding sps_fields behind_opening ending
returns c = subst (λ v. c.print_extension.new.out ≡ printed (sps_fields c.args.layer c.args.vps_sub_layers) v.0 c.args.out.now) c.v.view_is (search rules)
