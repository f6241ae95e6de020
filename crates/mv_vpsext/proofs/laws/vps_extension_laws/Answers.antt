use Rattle.mv_syntax.proofs.TableLaws.{exactly_one, round_trips}
use Rattle.mv_vpsext.specs.VpsExt.{vps_extension}
use Rattle.mv_vpsext.proofs.Orderly.{orderly}
use Rattle.mv_vpsext.proofs.laws.vps_extension_laws.Goals as goal

pub returns-clause-exactly_one : goal.returns-clause-exactly_one
returns-clause-exactly_one c = λ args b. exactly_one (vps_extension args) b

pub returns-clause-round_trips : goal.returns-clause-round_trips
returns-clause-round_trips c = λ args. round_trips (vps_extension args)

pub returns-clause-orderly : goal.returns-clause-orderly
returns-clause-orderly c = orderly
