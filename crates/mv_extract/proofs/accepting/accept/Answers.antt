use Rattle.std.proofs.Common.{Err, ap, subst, sym}
use Rattle.mv_walk.specs.Standing.{Stands}
use Rattle.mv_engine.specs.declared.error.Ending.{Ending}
use Rattle.mv_extract.specs.declared.error.WorkFault.{WorkFault}
use Rattle.mv_extract.specs.Accepting.{Accepts}
use Rattle.mv_extract.proofs.Walked.{never-rose, stopped, walked}
use Rattle.mv_extract.proofs.accepting.accept.Goals as goal

pub ending_of-requires : goal.ending_of-requires
ending_of-requires c = record { shown = λ is. never-rose (c.in-Err.ensures.view (ap Err is) c.requires.goes_on) }

pub returns-in-Ok-clause-accepts : goal.returns-in-Ok-clause-accepts
returns-in-Ok-clause-accepts c = λ us stands small. walked c.args.walker.now.asked us c.args.found.now.byte c.args.found.now.unit.now (Stands c.unit.new.self) c.in-Ok.step (c.in-Ok.ensures.walks us stands small)

pub returns-in-Err-clause-accepts : goal.returns-in-Err-clause-accepts
returns-in-Err-clause-accepts c = λ us stands small.
    subst (λ (e : Ending WorkFault). Accepts c.args.walker.now.asked us c.args.found.now.unit.now (Stands c.unit.new.self) (Err e)) (sym c.ending_of.ensures)
    (stopped c.args.walker.now.asked us c.args.found.now.byte c.args.found.now.unit.now (Stands c.unit.new.self) c.in-Err.error (c.in-Err.ensures.walks us stands small))
