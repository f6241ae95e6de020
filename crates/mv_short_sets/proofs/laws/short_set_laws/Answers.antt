use Rattle.mv_syntax.proofs.TableLaws.{exactly_one, round_trips}
use Rattle.mv_short_sets.specs.ShortSet.{st_ref_pic_set}
use Rattle.mv_short_sets.proofs.laws.short_set_laws.Goals as goal

pub returns-clause-exactly_one : goal.returns-clause-exactly_one
returns-clause-exactly_one c = λ idx num earlier b. exactly_one (st_ref_pic_set idx num earlier) b

pub returns-clause-round_trips : goal.returns-clause-round_trips
returns-clause-round_trips c = λ idx num earlier. round_trips (st_ref_pic_set idx num earlier)
