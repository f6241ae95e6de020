use Rattle.std.proofs.Common.{Some, refl}
use Rattle.mv_walk.proofs.Putting.{again-put, changed-put, first-put}
use Rattle.mv_walk.proofs.course.Course.put_vps.Goals as goal

pub returns-in-Repeated-clause-none : goal.returns-in-Repeated-clause-none
returns-in-Repeated-clause-none g c = refl

pub returns-in-Repeated-clause-put : goal.returns-in-Repeated-clause-put
returns-in-Repeated-clause-put g c = again-put c.args.new c.args.step.au c.args.self.now _ c.in-Repeated.is refl

pub returns-in-First-clause-none : goal.returns-in-First-clause-none
returns-in-First-clause-none g c = refl

pub returns-in-First-clause-put : goal.returns-in-First-clause-put
returns-in-First-clause-put g c = first-put c.args.new c.in-First.vps c.args.step.au c.args.self.now c.put_new.new.self c.in-First.is c.put_new.ensures

pub returns-in-Changed-clause-none : goal.returns-in-Changed-clause-none
returns-in-Changed-clause-none g c = refl

pub returns-in-Changed-clause-put : goal.returns-in-Changed-clause-put
returns-in-Changed-clause-put g c =
    changed-put c.args.new c.in-Changed.vps c.args.step.au c.args.self.now (record c.args.self.now { sets = c.forget.new.self; changed = Some c.args.step.au }) c.put_new-in-Changed.new.self c.in-Changed.is refl
    c.put_new-in-Changed.ensures c.forget.ensures.stands
