use Rattle.std.proofs.Common.{Option, List, ℕ, ◌++◌, Result, Ok, Err, OnOk, OnErr}
use Rattle.mv_io.specs.declared.sink.SinkFailed.{SinkFailed}
use Rattle.mv_io.specs.Sink.{Appends, AppendsPrefix}
use Rattle.mv_io.proofs.Appends.{Appends-then, AppendsPrefix-first, AppendsPrefix-then}
use Rattle.mv_io.proofs.sink.write_both.Goals as goal

both-written : (r : Result (Unit {0}) SinkFailed) (old mid new : Option (List ℕ)) (xs ys : List ℕ) → Appends old mid xs → OnOk r (Appends mid new ys) → OnOk r (Appends old new (xs ++ ys))
both-written (Ok x) old mid new xs ys first next = Appends-then old mid new xs ys first next
both-written (Err x) old mid new xs ys first next = tt

second-failed : (r : Result (Unit {0}) SinkFailed) (old mid new : Option (List ℕ)) (xs ys : List ℕ) → Appends old mid xs → OnErr r (AppendsPrefix mid new ys) → OnErr r (AppendsPrefix old new (xs ++ ys))
second-failed (Ok x) old mid new xs ys first next = tt
second-failed (Err x) old mid new xs ys first next = AppendsPrefix-then old mid new xs ys first next

pub returns-in-Ok-clause-all : goal.returns-in-Ok-clause-all
returns-in-Ok-clause-all g c = both-written c.write_all-in-Ok.result _ _ _ _ _ c.in-Ok.ensures.all c.write_all-in-Ok.ensures.all

pub returns-in-Ok-clause-failed : goal.returns-in-Ok-clause-failed
returns-in-Ok-clause-failed g c = second-failed c.write_all-in-Ok.result _ _ _ _ _ c.in-Ok.ensures.all c.write_all-in-Ok.ensures.failed

pub returns-in-Err-clause-failed : goal.returns-in-Err-clause-failed
returns-in-Err-clause-failed g c = AppendsPrefix-first _ _ _ _ c.in-Err.ensures.failed
