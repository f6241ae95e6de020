use Rattle.std.proofs.Common.{ℕ, ◌+◌, ◌<◌, ◌^◌, sym, subst}
use Rattle.std.specs.Prelude.{⊤, List, Err, Ok}
use Rattle.mv_walk.specs.Stepping.{Steps}
use Rattle.mv_walk.specs.Walking.{Walks}
use Rattle.mv_walk.specs.declared.ending.WalkError.{WalkError}
use Rattle.mv_walk.proofs.Calling.{behind-more, walks-err}
use Rattle.mv_walk.proofs.walker.Walker.unit.Goals as goal

pub step-requires-clause-has : goal.step-requires-clause-has
step-requires-clause-has g c =
    let went = c.requires.goes_on c.in_default.is in
    record { units = went.units; stood = went.behind.stood; few = subst (λ n. n + 1 < 2 ^ 64) went.behind.number_is c.in-Some-checked_add.ensures.0 }

pub returns-in-Ok-clause-walks : goal.returns-in-Ok-clause-walks
returns-in-Ok-clause-walks g c = λ us s few.
    let st : Steps c.args.self.now.asked us c.args.unit.now c.step.new.self (Ok c.in-Ok.step) =
    subst (λ o. Steps o us c.args.unit.now c.step.new.self (Ok c.in-Ok.step)) s.behind.asked_is (c.in-Ok.ensures.steps us s.behind.stood few) in (
      st.0,
      record {
        goes_on = c.in_default.is;
        behind = behind-more c.args.self.now.asked c.args.self.now.number c.args.self.now.kept c.in-Some-checked_add.number c.kept_with-self.result
            c.args.self.now.course c.step.new.self us c.args.unit.now c.in-Ok.step s.behind few st.1 c.step.ensures.asked st.2 c.in-Some-checked_add.ensures.1 c.kept_with-self.ensures;
      },
      st.2,
    )

pub returns-in-Err-clause-walks : goal.returns-in-Err-clause-walks
returns-in-Err-clause-walks g c = λ us s few.
    subst (λ (e : WalkError). Walks c.args.self.now.asked us c.args.byte c.args.unit.now (λ (x : List (List ℕ)). ⊤) (Err e)) (sym c.error_of-error.ensures)
    (walks-err c.args.self.now.asked us c.args.byte c.args.self.now.number c.args.unit.now (λ (x : List (List ℕ)). ⊤) c.step.new.self c.in-Err.stop
    (subst (λ o. Steps o us c.args.unit.now c.step.new.self (Err c.in-Err.stop)) s.behind.asked_is (c.in-Err.ensures.steps us s.behind.stood few)) s.behind.number_is)
