use Rattle.mv_syntax.proofs.TableLaws.{exactly_one, round_trips}
use Rattle.mv_common.specs.ProfileTier.{profile_tier_level}
use Rattle.mv_common.proofs.laws.profile_tier_laws.Goals as goal

pub returns-clause-exactly_one : goal.returns-clause-exactly_one
returns-clause-exactly_one c = λ present subs b. exactly_one (profile_tier_level present subs) b

pub returns-clause-round_trips : goal.returns-clause-round_trips
returns-clause-round_trips c = λ present subs. round_trips (profile_tier_level present subs)
