use Rattle.std.proofs.Common.{refl}
use Rattle.mv_pictures.specs.Facts.{header_of}
use Rattle.mv_contexts.proofs.laws.a_header_is_that_of_its_unit.Goals as goal

pub returns : goal.returns
unfolding header_of
returns c = λ i ctx. refl
