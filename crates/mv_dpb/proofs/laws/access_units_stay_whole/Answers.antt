use Rattle.mv_dpb.proofs.WholeLaws.{none-put, none-staying, other-whole, put-whole, staying-whole}
use Rattle.mv_dpb.proofs.laws.access_units_stay_whole.Goals as goal

pub returns-clause-put : goal.returns-clause-put
returns-clause-put g c = put-whole

pub returns-clause-joined : goal.returns-clause-joined
returns-clause-joined g c = other-whole

pub returns-clause-staying : goal.returns-clause-staying
returns-clause-staying g c = staying-whole

pub returns-clause-none_put : goal.returns-clause-none_put
returns-clause-none_put g c = none-put

pub returns-clause-none_staying : goal.returns-clause-none_staying
returns-clause-none_staying g c = none-staying
