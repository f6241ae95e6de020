use Rattle.std.proofs.Common.{ap}
use Rattle.mv_prefixed.specs.Reading.{Reading}
use Rattle.mv_prefixed.proofs.Spelling.{one-spelling}
use Rattle.mv_prefixed.proofs.ReadLaws.{read-form}
use Rattle.mv_prefixed.proofs.laws.the_spelling_is_one.Goals as goal

pub returns-clause-back : goal.returns-clause-back
returns-clause-back c = λ us plain. (ap (λ (r : Reading). r.units) (read-form us plain), ap (λ (r : Reading). r.rest) (read-form us plain))

pub returns-clause-one : goal.returns-clause-one
returns-clause-one c = one-spelling
