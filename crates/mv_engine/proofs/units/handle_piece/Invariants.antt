use Rattle.std.proofs.Common.{◌≤◌, ◌-◌, ◌++◌, ℕ, List, length, take}
use Rattle.mv_engine.specs.inner.Handling.{IdleBy}
use Rattle.mv_engine.proofs.units.handle_piece.Given as goal

-- what was fed of the piece was handled, and no unit waits
abbrev pub invariant-loop-fed : goal.invariant-loop-fed
invariant-loop-fed g l = record {
  within : l.fed ≤ length l.piece;
  idle : (start : g.row.V.Denot) (first : g.row.V-Out.Denot) (s : List ℕ) →
      IdleBy g.R.UnitReader.format g.V.Visitor.meaning start first (g.R.UnitReader.stands l.initial.reader) l.initial.visitor l.initial.out (g.R.UnitReader.reading l.initial.reader) l.initial.number s →
      IdleBy g.R.UnitReader.format g.V.Visitor.meaning start first (g.R.UnitReader.stands l.reader) l.visitor l.out (g.R.UnitReader.reading l.reader) l.number (s ++ take l.fed l.piece);
}

abbrev pub decreases-loop-fed : goal.decreases-loop-fed
decreases-loop-fed g l = length l.piece - l.fed
