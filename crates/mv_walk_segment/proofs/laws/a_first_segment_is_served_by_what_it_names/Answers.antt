use Rattle.mv_walk_segment.proofs.NamedLaws.{lacks-rule}
use Rattle.mv_walk_segment.proofs.OpenLaws.{named-first}
use Rattle.mv_walk_segment.proofs.ReadLaws.{context-at}
use Rattle.mv_walk_segment.proofs.laws.a_first_segment_is_served_by_what_it_names.Goals as goal

pub returns-clause-sets : goal.returns-clause-sets
returns-clause-sets c = named-first

pub returns-clause-refused : goal.returns-clause-refused
returns-clause-refused c = λ vps head id past q rule segment served lacks. lacks-rule past q id rule segment.id_is served lacks

pub returns-clause-context : goal.returns-clause-context
returns-clause-context c = context-at
