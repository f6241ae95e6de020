use Rattle.std.proofs.Common.{sym, subst}
use Rattle.std.specs.Prelude.{Err}
use Rattle.mv_walk.specs.Walking.{Closes}
use Rattle.mv_walk.specs.declared.ending.WalkError.{WalkError}
use Rattle.mv_walk.proofs.Calling.{closes-err, closes-ok}
use Rattle.mv_walk.proofs.walker.Walker.end.Goals as goal

pub end-requires : goal.end-requires
end-requires g c = let went = c.requires.goes_on c.in_default.is in record { stood = (went.units, went.behind.stood) }

pub returns-in-Ok-clause-closes : goal.returns-in-Ok-clause-closes
returns-in-Ok-clause-closes g c = λ us s.
    closes-ok c.args.self.now.asked c.args.self.now.number c.args.self.now.kept c.args.self.now.course us c.args.byte c.in-Ok.totals s.behind (c.in-Ok.ensures.ends us s.behind.stood)

pub returns-in-Err-clause-closes : goal.returns-in-Err-clause-closes
returns-in-Err-clause-closes g c = λ us s.
    subst (λ (e : WalkError). Closes c.args.self.now.asked us c.args.byte (Err e)) (sym c.error_of-error.ensures)
    (closes-err c.args.self.now.asked us c.args.byte c.args.self.now.number c.args.self.now.number c.args.self.now.kept c.in-Err.stop (c.in-Err.ensures.ends us s.behind.stood) s.behind.number_is)
