use Rattle.mv_syntax.proofs.PayloadLaws.{payload_exactly_one, payload_round_trips}
use Rattle.mv_vps.specs.Vps.{vps}
use Rattle.mv_vps.proofs.laws.vps_laws.Goals as goal

pub returns-clause-exactly_one : goal.returns-clause-exactly_one
returns-clause-exactly_one c = λ b. payload_exactly_one vps b

pub returns-clause-round_trips : goal.returns-clause-round_trips
returns-clause-round_trips c = payload_round_trips vps
