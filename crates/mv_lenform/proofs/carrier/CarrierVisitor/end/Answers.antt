use Rattle.std.proofs.Common.{refl}
use Rattle.mv_lenform.proofs.carrier.CarrierVisitor.end.Goals as goal

pub returns : goal.returns
returns g c = record { ends = λ start first us stands wrote. (refl, (stands.1, wrote)) }
