use Rattle.std.proofs.Common.{◌≡◌, rules, subst}
use Rattle.mv_syntax.specs.Printed.{printed}
use Rattle.mv_sps.specs.References.{references}
use Rattle.mv_sps.proofs.references.print_references.Goals as goal

pub returns : goal.returns
unfolding references
returns c = subst (λ v. c.print_candidates.new.out ≡ printed (references c.args.lsb_bits) v c.args.out.now) c.v.view_is (search rules)
