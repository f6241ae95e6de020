use Rattle.std.proofs.Common.{true, sym, ◌∙◌, subst}
use Rattle.mv_engine.specs.inner.Handling.{Leaves}
use Rattle.mv_engine.proofs.Fed.{ended-handled, finish-refused, idle-some}
use Rattle.mv_engine.proofs.Handed.{all-ended, end-closed}
use Rattle.mv_engine.proofs.units.handle_end.Goals as goal

pub returns-in-Err-Refused : goal.returns-in-Err-Refused
returns-in-Err-Refused g c = record {
  handles = λ start first s idle.
      let refuses = rw c.in-Err-Refused.field-0-is at c.in-Err-Refused.ensures.refused in
      finish-refused g.met.R.UnitReader.is_format s c.in-Err-Refused.refusal idle (refuses s idle.handled.holds);
}

pub returns-in-Err-Memory : goal.returns-in-Err-Memory
returns-in-Err-Memory g c = record {
  handles = λ start first s idle. idle-some true s s idle (g.met.R.UnitReader.is_format.all s);
}

pub returns-in-Ok-handle_unit : goal.returns-in-Ok-handle_unit
returns-in-Ok-handle_unit g c = record {
  handles = λ start first s idle.
      let holds = c.in-Ok.ensures.stands s idle.handled.holds in
      let handles = c.in-Ok-handle_unit.ensures.handles start first s
      (ended-handled g.met.R.UnitReader.is_format idle holds (g.met.R.UnitReader.means _ s holds) c.in-Ok.ensures.given c.in-Ok.ensures.ended) in
      let all = all-ended handles.0 handles.1 (handles.2 ∙ c.in-Ok.ensures.ended) in
      end-closed g.R.UnitReader.format g.V.Visitor.meaning start first c.handle_unit.new.visitor c.close.new.visitor _ c.close.new.out _ _ s c.close.result all (sym c.requires.count ∙ idle.handled.means.fed)
      (c.close.ensures.closes start first _ all.stands all.wrote);
}

pub returns-in-Err : goal.returns-in-Err
returns-in-Err g c = record {
  handles = λ start first s idle.
      let holds = c.in-Ok.ensures.stands s idle.handled.holds in
      subst (λ b. Leaves g.R.UnitReader.format g.V.Visitor.meaning start first c.handle_unit.new.out b s c.in-Err.error) c.in-Ok.ensures.ended
      (c.in-Err.ensures.handles start first s
      (ended-handled g.met.R.UnitReader.is_format idle holds (g.met.R.UnitReader.means _ s holds) c.in-Ok.ensures.given c.in-Ok.ensures.ended));
}
