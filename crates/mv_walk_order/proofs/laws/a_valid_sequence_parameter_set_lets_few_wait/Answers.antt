use Rattle.mv_walk_order.proofs.SpsLaws.{reorder_low}
use Rattle.mv_walk_order.proofs.laws.a_valid_sequence_parameter_set_lets_few_wait.Goals as goal

pub returns : goal.returns
returns c = reorder_low
