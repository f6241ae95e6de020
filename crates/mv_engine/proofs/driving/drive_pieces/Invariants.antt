use Rattle.std.proofs.Common.{◌≤◌}
use Rattle.mv_io.specs.Call.{input_of}
use Rattle.mv_engine.proofs.Endings.{Going}
use Rattle.mv_engine.proofs.driving.drive_pieces.Given as goal

-- what was taken was handled, and with the room that is left it makes up the limit
abbrev pub invariant-loop-room : goal.invariant-loop-room
invariant-loop-room g l = record {
  going : Going g.R.UnitReader.format g.V.Visitor.meaning l.initial.visitor l.initial.out (g.R.UnitReader.stands l.reader) l.visitor l.out l.limit l.room
      (input_of (g.S.Source.state l.initial.source) (g.S.Source.state l.source)) (g.R.UnitReader.reading l.reader) l.number;
  source_count : (g.S.Source.state l.initial.source).faults ≤ (g.S.Source.state l.source).faults;
}

abbrev pub decreases-loop-room : goal.decreases-loop-room
decreases-loop-room g l = l.room
