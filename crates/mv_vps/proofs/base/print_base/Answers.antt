use Rattle.std.proofs.Common.{◌≡◌, rules, subst}
use Rattle.mv_syntax.specs.Printed.{printed}
use Rattle.mv_vps.specs.Base.{base}
use Rattle.mv_vps.proofs.base.print_base.Goals as goal

pub returns : goal.returns
unfolding base
returns c = subst (λ v. c.flag-2.new.self ≡ printed base v c.args.out.now) c.v.view_is (search rules)
