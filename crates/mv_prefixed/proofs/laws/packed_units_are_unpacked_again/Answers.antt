use Rattle.mv_prefixed.proofs.Packed.{accepted-plain, form-units, framed-accepted}
use Rattle.mv_prefixed.proofs.laws.packed_units_are_unpacked_again.Goals as goal

pub returns-clause-plain : goal.returns-clause-plain
returns-clause-plain c = accepted-plain

pub returns-clause-units : goal.returns-clause-units
returns-clause-units c = form-units

pub returns-clause-accepted : goal.returns-clause-accepted
returns-clause-accepted c = framed-accepted
