use Rattle.mv_commuting.proofs.Rising.{numbers-rise-of, pictures-rise-of}
use Rattle.mv_commuting.proofs.history_laws.access_units_rise.Goals as goal

pub returns-clause-numbers : goal.returns-clause-numbers
returns-clause-numbers c = numbers-rise-of

pub returns-clause-pictures : goal.returns-clause-pictures
returns-clause-pictures c = pictures-rise-of
