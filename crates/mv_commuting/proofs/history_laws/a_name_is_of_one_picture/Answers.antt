use Rattle.mv_commuting.proofs.Extracts.{names-of}
use Rattle.mv_commuting.proofs.history_laws.a_name_is_of_one_picture.Goals as goal

pub returns : goal.returns
returns c = names-of
