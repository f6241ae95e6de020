use Rattle.std.proofs.Common.{refl}
use Rattle.mv_judging.specs.Event.{event}
use Rattle.mv_judging.proofs.Seen.{due-whole, due-shown, due-over}
use Rattle.mv_judging.proofs.laws.bytes_held_decide.Goals as goal

pub returns-clause-whole : goal.returns-clause-whole
returns-clause-whole c = λ f j limit held is within. due-whole f j limit held (event f j held) is within refl

pub returns-clause-shown : goal.returns-clause-shown
returns-clause-shown c = due-shown

pub returns-clause-over : goal.returns-clause-over
returns-clause-over c = due-over
