use Rattle.mv_io.proofs.Appends.{Appends-nothing, Appends-then, AppendsPrefix-first, AppendsPrefix-then}
use Rattle.mv_io.proofs.laws.appended_bytes_add_up.Goals as goal

pub returns-clause-nothing : goal.returns-clause-nothing
returns-clause-nothing c = Appends-nothing

pub returns-clause-both : goal.returns-clause-both
returns-clause-both c = Appends-then

pub returns-clause-first_failed : goal.returns-clause-first_failed
returns-clause-first_failed c = AppendsPrefix-first

pub returns-clause-second_failed : goal.returns-clause-second_failed
returns-clause-second_failed c = AppendsPrefix-then
