use Rattle.std.proofs.Common.{◌≡◌, rules, subst}
use Rattle.mv_syntax.specs.Printed.{printed}
use Rattle.mv_sps.specs.Coding.{coding}
use Rattle.mv_sps.proofs.coding.print_coding.Goals as goal

pub returns : goal.returns
unfolding coding
returns c = subst (λ v. c.flag-2.new.self ≡ printed (coding c.args.ext c.args.lsb_bits) v c.args.out.now) c.v.view_is (search rules)
