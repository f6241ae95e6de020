use Rattle.mv_walk_values.proofs.Referring.{last_value, part-referred}
use Rattle.mv_walk_values.proofs.laws.references_are_values.Goals as goal

pub returns-clause-part : goal.returns-clause-part
returns-clause-part g c = part-referred

pub returns-clause-last : goal.returns-clause-last
returns-clause-last g c = last_value
