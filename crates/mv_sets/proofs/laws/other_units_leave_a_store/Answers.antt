use Rattle.mv_sets.proofs.StoreLaws.{stands-other}
use Rattle.mv_sets.proofs.laws.other_units_leave_a_store.Goals as goal

pub returns : goal.returns
returns c = λ s past f stands. stands-other s past f stands
