use Rattle.std.proofs.Common.{refl}
use Rattle.mv_syntax.proofs.PayloadLaws.{payload_exactly_one, payload_round_trips}
use Rattle.mv_syntax.proofs.TableLaws.{splits_as}
use Rattle.mv_pps.specs.Opening.{opening}
use Rattle.mv_pps.specs.Pps.{behind_opening, in_parts, pps_fields, pps}
use Rattle.mv_pps.proofs.laws.pps_laws.Goals as goal

pub returns-clause-exactly_one : goal.returns-clause-exactly_one
returns-clause-exactly_one c = λ b. payload_exactly_one pps b

pub returns-clause-round_trips : goal.returns-clause-round_trips
returns-clause-round_trips c = payload_round_trips pps

pub returns-clause-splits : goal.returns-clause-splits
unfolding pps_fields
returns-clause-splits c = λ b. splits_as _ in_parts (λ _. refl) (λ _. refl) opening (λ _. behind_opening) b
