use Rattle.mv_walk_values.proofs.Sequences.{held_terms, near_sequence, terms_in_sequence}
use Rattle.mv_walk_values.proofs.sequence_laws.a_sequence_has_its_terms.Goals as goal

pub returns-clause-near : goal.returns-clause-near
returns-clause-near c = near_sequence

pub returns-clause-terms : goal.returns-clause-terms
returns-clause-terms c = terms_in_sequence

pub returns-clause-held : goal.returns-clause-held
returns-clause-held c = held_terms
