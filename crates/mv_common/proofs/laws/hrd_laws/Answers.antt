use Rattle.mv_syntax.proofs.TableLaws.{exactly_one, round_trips}
use Rattle.mv_common.specs.Hrd.{hrd_parameters}
use Rattle.mv_common.proofs.laws.hrd_laws.Goals as goal

pub returns-clause-exactly_one : goal.returns-clause-exactly_one
returns-clause-exactly_one c = λ common subs before b. exactly_one (hrd_parameters common subs before) b

pub returns-clause-round_trips : goal.returns-clause-round_trips
returns-clause-round_trips c = λ common subs before. round_trips (hrd_parameters common subs before)
