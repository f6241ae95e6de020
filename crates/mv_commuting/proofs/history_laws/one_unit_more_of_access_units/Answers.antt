use Rattle.mv_commuting.proofs.Places.{has_slices-step, number-first, number-more}
use Rattle.mv_commuting.proofs.history_laws.one_unit_more_of_access_units.Goals as goal

pub returns-clause-has_slices : goal.returns-clause-has_slices
returns-clause-has_slices c = has_slices-step

pub returns-clause-first : goal.returns-clause-first
returns-clause-first c = number-first

pub returns-clause-number : goal.returns-clause-number
returns-clause-number c = number-more
