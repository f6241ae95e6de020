use Rattle.mv_commuting.proofs.Extracts.{extract-twice}
use Rattle.mv_commuting.proofs.laws.extracting_twice_is_extracting_once.Goals as goal

pub returns : goal.returns
returns c = extract-twice
