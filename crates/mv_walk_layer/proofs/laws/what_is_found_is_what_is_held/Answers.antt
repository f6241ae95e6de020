use Rattle.mv_walk_layer.proofs.Telling.{found-apart, found-counted, found-told, missing-told}
use Rattle.mv_walk_layer.proofs.laws.what_is_found_is_what_is_held.Goals as goal

pub returns-clause-held : goal.returns-clause-held
returns-clause-held g c = found-told

pub returns-clause-counted : goal.returns-clause-counted
returns-clause-counted g c = found-counted

pub returns-clause-apart : goal.returns-clause-apart
returns-clause-apart g c = found-apart

pub returns-clause-missing : goal.returns-clause-missing
returns-clause-missing g c = missing-told
