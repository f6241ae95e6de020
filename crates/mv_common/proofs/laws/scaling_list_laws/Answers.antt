use Rattle.mv_syntax.proofs.TableLaws.{exactly_one, round_trips}
use Rattle.mv_common.specs.ScalingLists.{scaling_list_data}
use Rattle.mv_common.proofs.laws.scaling_list_laws.Goals as goal

pub returns-clause-exactly_one : goal.returns-clause-exactly_one
returns-clause-exactly_one c = λ b. exactly_one scaling_list_data b

pub returns-clause-round_trips : goal.returns-clause-round_trips
returns-clause-round_trips c = round_trips scaling_list_data
