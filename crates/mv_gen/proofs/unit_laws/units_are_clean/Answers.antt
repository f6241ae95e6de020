use Rattle.mv_gen.proofs.Clean.{units_clean}
use Rattle.mv_gen.proofs.unit_laws.units_are_clean.Goals as goal

pub returns-clause-rules : goal.returns-clause-rules
returns-clause-rules c = λ k d below. (units_clean c.args.number c.args.count k d below).rules

pub returns-clause-framable : goal.returns-clause-framable
returns-clause-framable c = λ k d below. (units_clean c.args.number c.args.count k d below).framable
