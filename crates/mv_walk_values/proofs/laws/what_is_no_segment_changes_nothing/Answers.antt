use Rattle.mv_walk_values.proofs.Standing.{no_segment}
use Rattle.mv_walk_values.proofs.laws.what_is_no_segment_changes_nothing.Goals as goal

pub returns : goal.returns
returns g c = record { stands = no_segment _ }
