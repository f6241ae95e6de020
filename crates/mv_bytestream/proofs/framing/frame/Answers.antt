use Rattle.mv_bytestream.proofs.Written.{frame-written, frame-failed, code-failed}
use Rattle.mv_bytestream.proofs.framing.frame.Goals as goal

pub returns-in-Ok-clause-all : goal.returns-in-Ok-clause-all
returns-in-Ok-clause-all g c = frame-written c.write_all-in-Ok.result _ _ _ c.args.unit.now c.in-Ok.ensures.all c.write_all-in-Ok.ensures.all

pub returns-in-Ok-clause-failed : goal.returns-in-Ok-clause-failed
returns-in-Ok-clause-failed g c = frame-failed c.write_all-in-Ok.result _ _ _ c.args.unit.now c.in-Ok.ensures.all c.write_all-in-Ok.ensures.failed

pub returns-in-Err-clause-failed : goal.returns-in-Err-clause-failed
returns-in-Err-clause-failed g c = code-failed _ _ c.args.unit.now c.in-Err.ensures.failed
