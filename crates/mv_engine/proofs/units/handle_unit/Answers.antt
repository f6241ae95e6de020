use Rattle.std.proofs.Common.{sym, arith}
use Rattle.mv_engine.proofs.Handed.{counted-is, number-fits, ready, unit-failed, unit-handled}
use Rattle.mv_engine.proofs.units.handle_unit.Goals as goal

pub visit-requires : goal.visit-requires
visit-requires g c = record { ready = ready g.met.R.UnitReader.is_format _ _ _ c.requires (sym c.in-Some.ensures.found) }

pub overflow_add-number : goal.overflow_add-number
overflow_add-number g c =
    omega (arith, number-fits g.met.R.UnitReader.is_format _ _ _ _ c.requires.handled c.requires.countable (sym c.in-Some.ensures.found))

pub returns-in-Ok : goal.returns-in-Ok
returns-in-Ok g c = record {
  handles = λ start first s handled.
      let holds = c.next_unit.follows.holds-at-none.1 s handled.holds in
      unit-handled _ g.V.Visitor.meaning start first _ _ _ _ _ _ _ _ _ s _ handled (sym c.in-Some.ensures.found) c.next_unit.follows.holds-at-none.0
      holds (g.met.R.UnitReader.means _ s holds)
      (c.in-Ok.ensures.visits start first _ handled.stands handled.wrote (counted-is _ _ s handled));
}

pub returns-in-Err : goal.returns-in-Err
returns-in-Err g c = record {
  handles = λ start first s handled.
      unit-failed _ g.V.Visitor.meaning start first _ _ c.visit.new.visitor _ _ _ _ s _ c.in-Err.error handled (sym c.in-Some.ensures.found)
      (c.in-Err.ensures.visits start first _ handled.stands handled.wrote (counted-is _ _ s handled));
}
