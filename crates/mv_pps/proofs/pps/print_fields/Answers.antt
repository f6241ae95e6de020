use Rattle.std.proofs.Common.{◌≡◌, rules, subst}
use Rattle.mv_syntax.specs.Printed.{printed}
use Rattle.mv_pps.specs.Pps.{pps_fields, behind_opening}
use Rattle.mv_pps.proofs.pps.print_fields.Goals as goal

pub returns : goal.returns
unfolding pps_fields behind_opening
returns c = subst (λ v. c.print_extension_if.new.out ≡ printed pps_fields v.0 c.args.out.now) c.v.view_is (search rules)
