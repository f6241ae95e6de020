use Rattle.mv_walk_values.proofs.InTime.{in_time_begun, in_time_comes, in_time_complete, in_time_given, in_time_kept, in_time_no_segment, in_time_none, in_time_whole, order_made, order_other}
use Rattle.mv_walk_values.proofs.in_time.pictures_leave_in_time.Goals as goal

pub returns-clause-none : goal.returns-clause-none
returns-clause-none g c = in_time_none

pub returns-clause-made : goal.returns-clause-made
returns-clause-made g c = order_made

pub returns-clause-other : goal.returns-clause-other
returns-clause-other g c = order_other

pub returns-clause-kept : goal.returns-clause-kept
returns-clause-kept g c = in_time_kept

pub returns-clause-no_segment : goal.returns-clause-no_segment
returns-clause-no_segment g c = in_time_no_segment

pub returns-clause-comes : goal.returns-clause-comes
returns-clause-comes g c = in_time_comes

pub returns-clause-whole : goal.returns-clause-whole
returns-clause-whole g c = in_time_whole

pub returns-clause-given : goal.returns-clause-given
returns-clause-given g c = in_time_given

pub returns-clause-complete : goal.returns-clause-complete
returns-clause-complete g c = in_time_complete

pub returns-clause-begun : goal.returns-clause-begun
returns-clause-begun g c = in_time_begun
