use Rattle.mv_lenform.proofs.Round.{unpacked-accepted, unpacked-packed}
use Rattle.mv_lenform.proofs.laws.unpacked_strings_are_packed.Goals as goal

pub returns-clause-accepted : goal.returns-clause-accepted
returns-clause-accepted c = unpacked-accepted

pub returns-clause-same : goal.returns-clause-same
returns-clause-same c = unpacked-packed
