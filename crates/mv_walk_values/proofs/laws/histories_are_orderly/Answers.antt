use Rattle.mv_walk_values.proofs.Histories.{orderly}
use Rattle.mv_walk_values.proofs.Orderly.{new_none, term_in_sequence}
use Rattle.mv_walk_values.proofs.laws.histories_are_orderly.Goals as goal

pub returns-clause-orderly : goal.returns-clause-orderly
returns-clause-orderly c = orderly

pub returns-clause-none : goal.returns-clause-none
returns-clause-none c = new_none

pub returns-clause-in_sequence : goal.returns-clause-in_sequence
returns-clause-in_sequence c = term_in_sequence
