use Rattle.mv_walk_values.proofs.Ahead.{before_none}
use Rattle.mv_walk_values.proofs.in_time.a_picture_stands_before_none_that_was_shown.Goals as goal

pub returns : goal.returns
returns c = before_none
