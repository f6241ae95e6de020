use Rattle.std.proofs.Common.{refl}
use Rattle.mv_syntax.proofs.PayloadLaws.{payload_exactly_one, payload_round_trips}
use Rattle.mv_syntax.proofs.TableLaws.{splits_as}
use Rattle.mv_sps.specs.Opening.{opening}
use Rattle.mv_sps.specs.Sps.{behind_opening, in_parts, sps_fields, sps_payload}
use Rattle.mv_sps.proofs.laws.sps_laws.Goals as goal

pub returns-clause-exactly_one : goal.returns-clause-exactly_one
returns-clause-exactly_one c = λ layer vps_sub_layers b. payload_exactly_one (sps_payload layer vps_sub_layers) b

pub returns-clause-round_trips : goal.returns-clause-round_trips
returns-clause-round_trips c = λ layer vps_sub_layers. payload_round_trips (sps_payload layer vps_sub_layers)

pub returns-clause-splits : goal.returns-clause-splits
unfolding sps_fields
returns-clause-splits c = λ layer vps_sub_layers b. splits_as _ in_parts (λ _. refl) (λ _. refl) (opening layer vps_sub_layers) (behind_opening layer vps_sub_layers) b
