use Rattle.std.proofs.Common.{◌∙◌}
use Rattle.mv_rps.proofs.StandLaws.{missing_told, missing_where}
use Rattle.mv_rps.proofs.laws.missing_references_are_those_of_pictures.Goals as goal

pub returns : goal.returns
returns c = λ l p decoded counted apart. missing_told l p counted apart ∙ missing_where l p decoded
