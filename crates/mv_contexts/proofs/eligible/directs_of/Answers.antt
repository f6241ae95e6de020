use Rattle.std.proofs.Common.{◌≤◌, length, sym, subst}
use Rattle.mv_contexts.proofs.VpsLaws.{few-directs}
use Rattle.mv_contexts.proofs.eligible.directs_of.Goals as goal

pub returns-clause-few : goal.returns-clause-few
returns-clause-few c = subst (λ s. length s ≤ 62) (sym c.directs_in.ensures) (few-directs c.args.vps.now c.args.layer c.requires)
