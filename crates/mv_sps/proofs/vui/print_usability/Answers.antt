use Rattle.std.proofs.Common.{◌≡◌, rules, subst}
use Rattle.mv_syntax.specs.Printed.{printed}
use Rattle.mv_sps.specs.Usability.{usability}
use Rattle.mv_sps.proofs.vui.print_usability.Goals as goal

pub returns : goal.returns
unfolding usability
returns c = subst (λ v. c.print_vui_if.new.out ≡ printed (usability c.args.subs) v c.args.out.now) c.v.view_is (search rules)
