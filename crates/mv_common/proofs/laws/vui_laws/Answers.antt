use Rattle.mv_syntax.proofs.TableLaws.{exactly_one, round_trips}
use Rattle.mv_common.specs.Vui.{vui_parameters}
use Rattle.mv_common.proofs.laws.vui_laws.Goals as goal

pub returns-clause-exactly_one : goal.returns-clause-exactly_one
returns-clause-exactly_one c = λ subs b. exactly_one (vui_parameters subs) b

pub returns-clause-round_trips : goal.returns-clause-round_trips
returns-clause-round_trips c = λ subs. round_trips (vui_parameters subs)
