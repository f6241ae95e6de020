use Rattle.mv_lenform.proofs.Round.{packed-accepted, packed-unpacked}
use Rattle.mv_lenform.proofs.laws.packed_streams_are_unpacked.Goals as goal

pub returns-clause-accepted : goal.returns-clause-accepted
returns-clause-accepted c = packed-accepted

pub returns-clause-framed : goal.returns-clause-framed
returns-clause-framed c = packed-unpacked
