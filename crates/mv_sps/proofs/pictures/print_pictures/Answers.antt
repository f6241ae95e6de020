use Rattle.std.proofs.Common.{◌≡◌, rules, subst}
use Rattle.mv_syntax.specs.Printed.{printed}
use Rattle.mv_sps.specs.Pictures.{pictures}
use Rattle.mv_sps.proofs.pictures.print_pictures.Goals as goal

pub returns : goal.returns
unfolding pictures
returns c = subst (λ v. c.print_ordering_if.new.out ≡ printed (pictures c.args.ext c.args.subs) v c.args.out.now) c.v.view_is (search rules)
