use Rattle.mv_commuting.proofs.Alive.{start_decoded}
use Rattle.mv_commuting.proofs.HeldMore.{other-marks, other-names, start-finds, start-marks, start-names}
use Rattle.mv_commuting.proofs.state_laws.what_names_nothing.Goals as goal

pub returns-clause-start_finds : goal.returns-clause-start_finds
returns-clause-start_finds c = start-finds

pub returns-clause-start_names : goal.returns-clause-start_names
returns-clause-start_names c = start-names

pub returns-clause-start_marks : goal.returns-clause-start_marks
returns-clause-start_marks c = start-marks

pub returns-clause-other_names : goal.returns-clause-other_names
returns-clause-other_names c = other-names

pub returns-clause-other_marks : goal.returns-clause-other_marks
returns-clause-other_marks c = other-marks

pub returns-clause-start_decoded : goal.returns-clause-start_decoded
returns-clause-start_decoded c = start_decoded
