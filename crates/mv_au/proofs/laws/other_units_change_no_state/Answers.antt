use Rattle.mv_au.proofs.StateLaws.{stands-over}
use Rattle.mv_au.proofs.laws.other_units_change_no_state.Goals as goal

pub returns : goal.returns
returns c = λ s past p stands none. stands-over past p none s stands
