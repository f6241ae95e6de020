use Rattle.std.proofs.Common.{Err, ap, subst, sym}
use Rattle.mv_engine.specs.declared.error.Ending.{Ending}
use Rattle.mv_extract.specs.declared.error.WorkFault.{WorkFault}
use Rattle.mv_extract.specs.Accepting.{Ends}
use Rattle.mv_extract.proofs.Walked.{ended, never-rose}
use Rattle.mv_extract.proofs.accepting.close.Goals as goal

pub ending_of-requires : goal.ending_of-requires
ending_of-requires c = record { shown = λ is. never-rose (c.in-Err.ensures.view (ap Err is) c.requires.goes_on) }

pub returns-in-Ok : goal.returns-in-Ok
returns-in-Ok c = record { ends = λ us stands. c.in-Ok.ensures.closes us stands }

pub returns-in-Err : goal.returns-in-Err
returns-in-Err c = record {
  ends = λ us stands.
      subst (λ (e : Ending WorkFault). Ends c.args.walker.now.asked us (Err e)) (sym c.ending_of.ensures)
      (ended c.args.walker.now.asked us 0 c.in-Err.error (c.in-Err.ensures.closes us stands));
}
