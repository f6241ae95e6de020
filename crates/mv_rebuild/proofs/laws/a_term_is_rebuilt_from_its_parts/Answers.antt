use Rattle.mv_rebuild.proofs.Values.{value_is, values_are}
use Rattle.mv_rebuild.proofs.laws.a_term_is_rebuilt_from_its_parts.Goals as goal

pub returns-clause-parts : goal.returns-clause-parts
returns-clause-parts g c = value_is

pub returns-clause-references : goal.returns-clause-references
returns-clause-references g c = values_are
