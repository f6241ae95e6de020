use Rattle.std.proofs.Common.{ap}
use Rattle.mv_prefixed.specs.LenForm.{lenform}
use Rattle.mv_prefixed.proofs.Spelling.{units-back}
use Rattle.mv_prefixed.proofs.laws.unpacked_units_are_packed_again.Goals as goal

pub returns-clause-units : goal.returns-clause-units
returns-clause-units c = units-back

pub returns-clause-form : goal.returns-clause-form
returns-clause-form c = λ us plain. ap lenform (units-back us plain)
