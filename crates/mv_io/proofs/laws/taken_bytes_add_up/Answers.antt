use Rattle.mv_io.proofs.Taking.{Took-end, Took-nothing, Took-then}
use Rattle.mv_io.proofs.laws.taken_bytes_add_up.Goals as goal

pub returns-clause-nothing : goal.returns-clause-nothing
returns-clause-nothing c = Took-nothing

pub returns-clause-both : goal.returns-clause-both
returns-clause-both c = λ old mid new xs ys ended. Took-then

pub returns-clause-end : goal.returns-clause-end
returns-clause-end c = λ old mid new xs ended. Took-end
