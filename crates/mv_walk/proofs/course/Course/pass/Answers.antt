use Rattle.std.proofs.Common.{refl, ap}
use Rattle.mv_walk.proofs.Passed.{passed-end, passed-over}
use Rattle.mv_walk.proofs.course.Course.pass.Goals as goal

pub eos-requires : goal.eos-requires
eos-requires g c = c.requires

pub returns-then-is_end-clause-passed : goal.returns-then-is_end-clause-passed
returns-then-is_end-clause-passed g c = λ us u old joined stood role.
    passed-end old c.args.self.now _ us u c.args.head _ joined stood role refl refl refl refl c.is_end.ensures c.if-is_end.true c.eos.ensures.keeps c.eos.ensures.rest

pub returns-then-is_end-clause-asked : goal.returns-then-is_end-clause-asked
returns-then-is_end-clause-asked g c = ap (λ d. d.asked) c.eos.ensures.rest

pub returns-else-is_end-clause-passed : goal.returns-else-is_end-clause-passed
returns-else-is_end-clause-passed g c = λ us u old joined stood role. passed-over old c.args.self.now _ us u c.args.head _ joined stood role refl refl refl refl refl c.is_end.ensures c.if-is_end.false

pub returns-else-is_end-clause-asked : goal.returns-else-is_end-clause-asked
returns-else-is_end-clause-asked g c = refl
