use Rattle.std.proofs.Common.{ap, map}
use Rattle.mv_pictures.specs.Decoding.{Decoded}
use Rattle.mv_rebuild.specs.Value.{value}
use Rattle.mv_extract.proofs.laws.an_extract_has_the_same_pictures.Goals as goal

pub returns : goal.returns
returns g c = λ rebuild o taken written same. ap (map (λ (d : Decoded). value rebuild d.term)) same.own
